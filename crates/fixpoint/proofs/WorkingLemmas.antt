-- What a solution and its sweeps work with, where the columns are laid out in some way: columns, parts of gates, and
-- constants.
use Rattle.std.proofs.Common.{◌≡◌, inl, inr, ℕ, zero, suc, ◌+◌, ◌<◌, ◌≤◌, Bool, true, false, ◌&&◌, ◌⊎◌, List, [], length, filter, get_or, sym, ap, ◌∙◌, arith, Contains}
use Rattle.std.proofs.Math.Path.{fun_ext}
use Rattle.fixpoint.proofs.Common.{All-contains, get_or-map, get_or_default, get_or-replicate, length-map, All, range_with_len, Node, Arena, den, Trit, X, Rails, AreRailsOf, value_of, values_of, is_bit, Parts, Blocks, AreBlocksOf, block_at, Cut, IsCutOf, cuts_of, first_gate, value_in, sweeps, AreStepsOf, IsGatePart, IsWorking, SweptLoop, Vectors, step_at}
use Rattle.std.proofs.lemmas.Bool.{and_parts}
use Rattle.std.proofs.lemmas.List.Elements.{Contains-get_or}
use Rattle.cyc_base.specs.Values.{bit, bits}
use Rattle.cyc_base.proofs.TruthLemmas.{same_truth}
use Rattle.bdd_ops.specs.Operations.{bit_at}
use Rattle.loops.specs.Cuts.{AreLoopsOf, Loops}
use Rattle.loops.specs.Found.{loops_of}
use Rattle.loops.specs.Sweeps.{cuts}
use Rattle.loops.proofs.Existence.{loops_exist}
use Rattle.loops.proofs.Reading.{Contains-filter_from}
use Rattle.loops.proofs.Sweeps.{same-sym, same-trans, same_within}
use Rattle.fixpoint.specs.Counts.{IsStepNode}
use Rattle.fixpoint.proofs.CutLemmas.{one-of, zero-of}
use Rattle.fixpoint.proofs.WorkLemmas.{sweeps_are_working, gate_parts_agree}
use Rattle.fixpoint.proofs.ToldLemmas.{loops-are}

-- ---- columns and parts of gates

-- at vectors of the netlist's width, the function is that of a column
pub record IsOfColumn (net : Parts) (h : List Bool → Bool) : Type 0 where
  pub column : ℕ
  pub within : column < first_gate net
  pub bit : Bool
  pub same : (v : List Bool) → length v ≡ first_gate net → h v ≡ is_bit bit (value_in (bits v) column)

-- or one that a gate works with
pub record IsOfGate (net : Parts) (h : List Bool → Bool) : Type 0 where
  pub of : List Bool → Bool
  pub is : IsGatePart net (loops_of net) bits of
  pub same : (v : List Bool) → length v ≡ first_gate net → h v ≡ of v

-- the column's bit
pub column-bit : {net : Parts} {h : List Bool → Bool} (of : IsOfColumn net h) (v : List Bool) → length v ≡ first_gate net → h v ≡ is_bit of.bit (bit (bit_at of.column v))
column-bit of v long = grind (arith, get_or-map bit v of.column false X)

-- a function that a gate works with, of other vectors
part-at : (net : Parts) (loops : Loops) (v : Vectors) (g : List Bool → Bool) → IsGatePart net loops v g → (f : List Bool → List Bool) → IsGatePart net loops (λ x. v (f x)) (λ x. g (f x))
part-at net loops v g part f = record {
  gate = part.gate;
  within = part.within;
  first = part.first;
  short = part.short;
  bit = part.bit;
  read = λ x. part.read (f x);
  reads = elim part.reads [
    | inl r ↦ inl (record { looped = r.looped; sweep = r.sweep; few = r.few; is = λ x. r.is (f x) })
    | inr r ↦ inr (record { plain = r.plain; is = λ x. r.is (f x) })
  ];
  same = λ x. part.same (f x);
}

-- the working list of a netlist, where vectors by column are laid out so
pub working-is : (net : Parts) (points : Vectors) (lay : List Bool → List Bool) → ((v : List Bool) → length v ≡ first_gate net → points (lay v) ≡ bits v) →
    (g : List Bool → Bool) → IsWorking net (loops_of net) points g → IsOfColumn net (λ v. g (lay v)) ⊎ IsOfGate net (λ v. g (lay v))
working-is net points lay are g (inl rail) = grind arith
working-is net points lay are g (inr part) =
    let h = gate_parts_agree net (loops_of net) (first_gate net) (λ v. points (lay v)) bits are (λ v. g (lay v)) (part-at net (loops_of net) points g part lay) in
    inr (record { of = h.of; is = h.is; same = h.alike })

-- ---- the steps of loops

-- the function has one value
pub record IsConstant (h : List Bool → Bool) : Type 0 where
  pub value : Bool
  pub same : (v : List Bool) → h v ≡ value

-- or is of the working list
pub record IsOfWorking (net : Parts) (points : Vectors) (h : List Bool → Bool) : Type 0 where
  pub of : List Bool → Bool
  pub is : IsWorking net (loops_of net) points of
  pub same : (v : List Bool) → h v ≡ of v

-- the cut wires of a loop are of that loop, and so many for each
cut-is : (net : Parts) (loops : Loops) → AreLoopsOf net loops → (gate n : ℕ) → Contains (cuts_of net loops gate) n → (loops.same n n ≡ true) × (cuts_of net loops n ≡ cuts_of net loops gate)
cut-is net loops are gate n has =
    let there = and_parts (loops.same gate n) (loops.cut n) (Contains-filter_from (λ m. loops.same gate m && loops.cut m) (range_with_len 0 (length net.gates)) n has).0 in
    let back = same-sym net loops are gate n there.0 in (
      same-trans net loops are n gate n back there.0,
      ap (λ (same : ℕ → Bool). filter (λ m. same m && loops.cut m) (range_with_len 0 (length net.gates)))
          (fun_ext (λ m. same_truth (loops.same n m) (loops.same gate m) (λ e. same-trans net loops are gate n m there.0 e) (λ e. same-trans net loops are n gate m back e))),
    )

-- a cut wire after so many sweeps
swept-is : (net : Parts) (points : Vectors) (gate n k : ℕ) (b : Bool) → Contains (cuts_of net (loops_of net) gate) n → k ≤ length (cuts_of net (loops_of net) gate) + 1 → (h : List Bool → Bool) →
    ((v : List Bool) → h v ≡ is_bit b (value_in (sweeps net (loops_of net) (points v) k) n)) → IsConstant h ⊎ IsOfWorking net points h
swept-is net points gate n zero b has few h same =
    grind (arith, same_within net (loops_of net) (loops_exist net) n n (cut-is net (loops_of net) (loops_exist net) gate n has).0, loops_exist net, cut-is net (loops_of net) (loops_exist net) gate n has, get_or-replicate {A = Trit} (length net.gates) n X X)
swept-is net points gate n (suc k) b has few h same =
    let is = cut-is net (loops_of net) (loops_exist net) gate n has in
    inr (record {
      of = λ v. is_bit b (value_in (sweeps net (loops_of net) (points v) (suc k)) n);
      is = sweeps_are_working net (loops_of net) (loops_exist net) points n k is.0 (omega (arith, ap length is.1)) b;
      same = same;
    })

module _ (net : Parts) (points : Vectors) (a : Arena) (blocks : Blocks) (cut : Cut) (are : AreBlocksOf net blocks) (cut_is : IsCutOf net cut)
    (loop : SweptLoop) (steps : AreStepsOf net blocks cut a points loop) (node : Node) (is : IsStepNode loop.steps node) where
  abbrev gate : ℕ
  gate = get_or (block_at blocks loop.block).gates 0 0

  gate-there : Contains (block_at blocks loop.block).gates (get_or (block_at blocks loop.block).gates 0 0)
  gate-there = Contains-get_or (block_at blocks loop.block).gates 0 0 (are.filled loop.block steps.block.within)

  -- the numbers of the step and of the rail in it
  abbrev step : ℕ
  step = is.among.0

  abbrev place : ℕ
  place = is.within.0

  step-is : step_at loop.steps is.among.0 ≡ is.step
  step-is = get_or_default loop.steps is.among.0 [] is.step is.among.1 ∙ is.among.2

  values-are : (v : List Bool) → values_of a is.step v ≡ cuts net (loops_of net) (points v) gate step
  values-are v =
      ap (λ (rails : List Rails). values_of a rails v) (sym step-is)
      ∙ steps.each gate step v gate-there is.among.1
      ∙ ap (λ (l : Loops). cuts net l (points v) gate step) (loops-are net blocks cut are cut_is)

  width : length is.step ≡ length (cuts_of net (loops_of net) gate)
  width = grind (arith, length-map {B = Trit} is.step, values-are [], length-map {B = Trit} (cuts_of net (loops_of net) gate) (value_in (sweeps net (loops_of net) (points []) step)))

  abbrev wire : ℕ
  wire = get_or (cuts_of net (loops_of net) gate) place 0

  wire-there : Contains (cuts_of net (loops_of net) gate) (get_or (cuts_of net (loops_of net) gate) is.within.0 0)
  wire-there = Contains-get_or (cuts_of net (loops_of net) gate) is.within.0 0 (omega (arith, is.within.1, width))

  rail-value : (v : List Bool) → value_of a is.rails v ≡ value_in (sweeps net (loops_of net) (points v) step) wire
  rail-value v = grind (arith, get_or-map, values-are v, get_or-map (value_in (sweeps net (loops_of net) (points v) step)) (cuts_of net (loops_of net) gate) place 0 X, width)

  -- a node is one of the two of a rail
  rail-is : (b : Bool) → ((v : List Bool) → den a node v ≡ is_bit b (value_of a is.rails v)) → IsConstant (den a node) ⊎ IsOfWorking net points (den a node)
  rail-is b same = grind (arith, gate-there, loops-are net blocks cut are cut_is, swept-is net points gate wire step b wire-there, wire-there, rail-value)

  -- what a node of a step says
  pub step-is_working : IsConstant (den a node) ⊎ IsOfWorking net points (den a node)
  step-is_working =
      let all : All (AreRailsOf a) is.step = All-contains (All (AreRailsOf a)) loop.steps is.step steps.rails is.among in
      let proper : AreRailsOf a is.rails = All-contains (AreRailsOf a) is.step is.rails all is.within in
      elim is.is [
        | inl e ↦ rail-is true (λ v. ap (λ (n : Node). den a n v) e ∙ sym (one-of (den a is.rails.one v) (den a is.rails.zero v)))
        | inr e ↦ rail-is false (λ v. ap (λ (n : Node). den a n v) e ∙ sym (zero-of (den a is.rails.one v) (den a is.rails.zero v) (proper.proper v)))
      ]
