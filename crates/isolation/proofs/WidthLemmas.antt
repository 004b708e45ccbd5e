-- The functions that a solution and the comparison of its sweeps work with, and what they cost.
use Rattle.std.proofs.Common.{◌≡◌, ◌⊎◌, inl, inr, ℕ, ◌+◌, ◌*◌, ◌<◌, ◌≤◌, Bool, true, false, ◌||◌, List, [], ◌∷◌, length, map, Result, Err, refl, sym, ap, ap₂, ◌∙◌, subst, arith}
use Rattle.std.proofs.Math.Nat.{mul-le-mul_left}
use Rattle.isolation.proofs.Common.{cases_Bool, get_or-map, length-map, length-append, All, Node, Arena, den, AddsWithin, GrowsWithin, KeepsNodes, NoOtherCause, within_more, within_moved, Trit, bits, Rails, AreRailsOf, value_of, values_of, IsWide, Gate, Parts, fix, fix_gates, IsNetlist, count, gate_at, Blocks, AreBlocksOf, Loops, loops_of, first_gate, value_in, loops_exist, rails_under, order, Vectors, rails_at, BoundsKnown, IsSolvedNetlist, IsLaid}
use Rattle.std.proofs.lemmas.List.Elements.{All-contains}
use Rattle.std.proofs.lemmas.List.Sums.{get_or-le-sum_by}
use Rattle.std.specs.List.{sum_by}
use Rattle.bdd_store.specs.Arena.{empty}
use Rattle.bdd_store.specs.declared.fault.StoreFault.{StoreFault}
use Rattle.bdd_store.specs.declared.fault.StoreFault.TheVariants.{Full}
use Rattle.bdd_store.proofs.GrowthLemmas.{adds_then, adds_moved}
use Rattle.bdd_store.specs.Subfunctions.{nodes}
use Rattle.bdd_store.proofs.SubfunctionLemmas.{nodes-alike}
use Rattle.bdd_ops.specs.Operations.{disjunction}
use Rattle.cover_logic.specs.Covers.{value}
use Rattle.cover_logic.specs.Extensions.{exact}
use Rattle.dual_rail.specs.Local.{size}
use Rattle.dual_rail.specs.WorkingLists.{is_bit}
use Rattle.dual_rail.proofs.WidthLemmas.{IsWide-fewer}
use Rattle.loops.specs.declared.structure.Cut.{Cut}
use Rattle.loops.specs.Cuts.{IsCutOf, loops_by}
use Rattle.loops.proofs.Sweeps.{length-fix}
use Rattle.fixpoint.specs.declared.solved.SweptLoop.{SweptLoop}
use Rattle.fixpoint.specs.declared.solved.Solved.{Solved}
use Rattle.fixpoint.specs.Counts.{IsStepNode, IsComparedIn}
use Rattle.fixpoint.specs.declared.kept.KeptRails.{KeptRails}
use Rattle.fixpoint.specs.Kept.{values_under}
use Rattle.fixpoint.specs.Orders.{laid}
use Rattle.fixpoint.specs.Solved.{AreStepsOf, AreKeptSteps, IsSolution, loop_under}
use Rattle.fixpoint.specs.Working.{HasLargeCover, IsReadAtFix, IsReadInSweep, IsWorking, effort, read_at_fix, read_in_sweep}
use Rattle.fixpoint.proofs.CutLemmas.{one-of, zero-of}
use Rattle.fixpoint.proofs.EffortLemmas.{effort-enough, gates-effort}
use Rattle.fixpoint.proofs.ToldLemmas.{loops-are}
use Rattle.fixpoint.proofs.WireLemmas.{rails_at-proper}
use Rattle.fixpoint.proofs.WorkLemmas.{fix_is_working}
use Rattle.fixpoint.proofs.WorkingLemmas.{step-is_working, working-is}
use Rattle.fixpoint.specs.Columns.{AreColumns}
use Rattle.isolation.specs.Settling.{AreColumnVectors, settling_cost}
use Rattle.isolation.specs.Unsettled.{IsBelowEnough, enough}

-- ---- functions that are made of one of the list

pub record IsMade (net : Parts) (h : List Bool → Bool) : Type 0 where
  pub of : List Bool → Bool
  pub listed : IsLaid net of
  pub by : Bool → Bool
  pub same : (x : List Bool) → length x ≡ first_gate net → h x ≡ by (of x)

-- a width serves them too
pub made-wide : (net : Parts) {w : ℕ} → IsWide (first_gate net) (IsLaid net) w → IsWide (first_gate net) (IsMade net) w
made-wide net {w} wide = record {
  variables = wide.variables;
  combinations = λ c f g h x y z.
      let most = wide.combinations (λ p q r. c (x.by p) (y.by q) (z.by r)) x.of y.of z.of x.listed y.listed z.listed in
      let same : nodes (first_gate net) (λ u. c (f u) (g u) (h u)) ≡ nodes (first_gate net) (λ u. c (x.by (x.of u)) (y.by (y.of u)) (z.by (z.of u))) =
      nodes-alike (first_gate net) (λ u. c (f u) (g u) (h u)) (λ u. c (x.by (x.of u)) (y.by (y.of u)) (z.by (z.of u)))
      (λ u long. ap (λ p. c p (g u) (h u)) (x.same u long) ∙ ap₂ (λ q r. c (x.by (x.of u)) q r) (y.same u long) (z.same u long)) in
      omega (arith, most, same);
}

module _ (net : Parts) (points : Vectors) (points_are : AreColumnVectors net points) where
  working-laid : (g : List Bool → Bool) → IsWorking net (loops_of net) points g → IsLaid net g
  working-laid g working = elim (working-is net points (laid net) points_are g working) [
    | inl c ↦ record {
      of = λ u. is_bit c.bit (value_in (bits u) c.column);
      is = inl (record { signal = c.column; within = c.within; bit = c.bit; same = λ u. refl });
      same = c.same;
    }
    | inr part ↦ record { of = part.of; is = inr part.is; same = part.same }
  ]

  pub working-wide : (vars : ℕ) → vars ≡ first_gate net → (loops : Loops) {w : ℕ} → loops ≡ loops_of net → IsWide vars (IsLaid net) w → IsWide vars (IsWorking net loops points) w
  working-wide vars vars_are loops {w} is wide =
      subst (λ (l : Loops). IsWide vars (IsWorking net l points) w) (sym is) (IsWide-fewer (IsLaid net) (IsWorking net (loops_of net) points) w working-laid wide)

  -- ---- signals at the fixpoint

  module _ (a : Arena) (rails : List Rails) (proper : All (AreRailsOf a) rails) (vector : (x : List Bool) → length (points x) ≡ first_gate net) (values : (x : List Bool) → values_of a rails x ≡ fix net (points x)) where
    pub rails-size : length rails ≡ count net
    rails-size =
        let one = sym (length-map {B = Trit} rails (λ r. value_of a r [])) ∙ ap length (values []) in
        let two = length-append (points []) (fix_gates net (points [])) in
        omega (arith, one, two, length-fix net (loops_of net) (points []), vector [])

    signal-value : (k : ℕ) → k < length rails → (x : List Bool) → value_of a (rails_at rails k) x ≡ value_in (fix net (points x)) k
    signal-value k less x = grind (arith, get_or-map)

    signal-laid : (k : ℕ) → k < length rails → (b : Bool) → IsLaid net (λ x. is_bit b (value_in (fix net (points x)) k))
    signal-laid k less b = grind (arith, working-laid, fix_is_working net (loops_of net) (loops_exist net) points vector k, loops_exist net, rails-size)

    -- a rail says where the signal has its bit
    rail-laid : (k : ℕ) → k < length rails → (b : Bool) (f : List Bool → Bool) → ((x : List Bool) → is_bit b (value_of a (rails_at rails k) x) ≡ f x) → IsLaid net f
    rail-laid k less b f rail = grind (arith, signal-laid k less b, signal-value k less)

    pub known-bounded : {w : ℕ} → IsWide a.vars (IsLaid net) w → BoundsKnown a rails w
    known-bounded wide k less =
        let one = den a (rails_at rails k).one in
        let zero = den a (rails_at rails k).zero in
        let is_one = rail-laid k less true one (λ x. one-of (one x) (zero x)) in
        let is_zero = rail-laid k less false zero (λ x. zero-of (one x) (zero x) ((rails_at-proper a rails proper k).proper x)) in
        wide.combinations (λ p q r. p || q) one zero zero is_one is_zero is_zero

  -- ---- the steps of loops

  module _ (some : 0 < length net.gates) where
    -- there is a function in the list, so that constants are made of it
    record SomeWorking : Type 0 where
      of : List Bool → Bool
      is : IsWorking net (loops_of net) points of

    reading : (read : List Bool → List Trit) → IsReadInSweep net (loops_of net) points 0 read ⊎ IsReadAtFix net (loops_of net) points 0 read → SomeWorking
    reading read reads = record {
      of = λ x. is_bit true (exact (value (gate_at net 0).cover) (read x));
      is = inr (record {
        gate = 0;
        within = some;
        first = [];
        short = omega arith;
        bit = true;
        read = read;
        reads = reads;
        same = λ x. refl;
      });
    }

    some-working : SomeWorking
    some-working = elim (cases_Bool ((loops_of net).same 0 0)) [
      | inl looped ↦ reading (λ x. read_in_sweep net (loops_of net) (points x) 0 0) (inl (record { looped = looped; sweep = 0; few = omega arith; is = λ x. refl }))
      | inr plain ↦ reading (λ x. read_at_fix net (points x) 0) (inr (record { plain = plain; is = λ x. refl }))
    ]

    constant-made : (b : Bool) (g : List Bool → Bool) → ((x : List Bool) → g x ≡ b) → IsMade net g
    constant-made b g is = record { of = some-working.of; listed = working-laid some-working.of some-working.is; by = λ x. b; same = λ x long. is x }

    module _ (a : Arena) (blocks : Blocks) (cut : Cut) (are : AreBlocksOf net blocks) (cut_is : IsCutOf net cut) where
      -- a rail of a step
      step-made : (loop : SweptLoop) → AreStepsOf net blocks cut a points loop → (node : Node) → IsStepNode loop.steps node → IsMade net (den a node)
      step-made loop steps node is = elim (step-is_working net points a blocks cut are cut_is loop steps node is) [
        | inl c ↦ constant-made c.value (den a node) c.same
        | inr w ↦ record { of = w.of; listed = working-laid w.of w.is; by = λ x. x; same = λ x long. w.same x }
      ]

      compared-made : (set : Node) (solved : Solved) → ((v : List Bool) → den a set v ≡ true) → All (AreKeptSteps net blocks cut a points) solved.loops → (g : List Bool → Bool) → IsComparedIn a set solved.loops g → IsMade net g
      compared-made set solved everywhere all g is = elim is.of [
        | inl e ↦ constant-made true g (λ v. is.same v ∙ ap (λ (n : Node). den a n v) e ∙ everywhere v)
        | inr at ↦
            let m = step-made (loop_under a at.loop) (All-contains (AreKeptSteps net blocks cut a points) solved.loops at.loop all at.among).steps is.node at.node in
            record { of = m.of; listed = m.listed; by = m.by; same = λ v long. is.same v ∙ m.same v long }
      ]

      pub compared-wide : (set : Node) (solved : Solved) {w : ℕ} → a.vars ≡ first_gate net → ((v : List Bool) → den a set v ≡ true) → All (AreKeptSteps net blocks cut a points) solved.loops → IsWide a.vars (IsLaid net) w →
          IsWide a.vars (IsComparedIn a set solved.loops) w
      compared-wide set solved {w} vars everywhere all wide =
          subst (λ n. IsWide n (IsComparedIn a set solved.loops) w) (sym vars)
          (IsWide-fewer (IsMade net) (IsComparedIn a set solved.loops) w (compared-made set solved everywhere all) (made-wide net (subst (λ n. IsWide n (IsLaid net) w) vars wide)))

-- where rails are known, in a store that has grown
pub known-kept : {s t : Arena} (r : Rails) → KeepsNodes s t → AreRailsOf s r → nodes t.vars (disjunction t r.one r.zero) ≡ nodes s.vars (disjunction s r.one r.zero)
known-kept {s} {t} r keeps proper = grind arith

-- ---- what a solved netlist costs

pub asked-grows : {r : Result Bool StoreFault} {a t : Arena} {blocks : Blocks} {solved : Solved} (is : IsSolvedNetlist a blocks solved) (kept : List KeptRails) → kept ≡ solved.rails →
    GrowsWithin r a t NoOtherCause (BoundsKnown a (map (rails_under a) kept)) (length kept) → GrowsWithin r a t NoOtherCause (IsWide a.vars (IsLaid is.net)) (count is.net)
asked-grows {r} {a} {t} {blocks} {solved} is kept same grows =
    let size = rails-size is.net is.points is.points_are a (map (rails_under a) solved.rails) is.solution.rails is.solution.vector is.solution.values in
    within_more (omega (arith, size, length-map {B = Rails} solved.rails (rails_under a)))
    (within_moved (λ w wide. known-bounded is.net is.points is.points_are a (map (rails_under a) solved.rails) is.solution.rails is.solution.vector is.solution.values wide)
    (subst (λ (xs : List KeptRails). GrowsWithin r a t NoOtherCause (BoundsKnown a (map (rails_under a) xs)) (length xs)) same grows))

abbrev pub solved-is : (net : Parts) (blocks : Blocks) (cut : Cut) (a d : Arena) (given : List KeptRails) (solved : Solved) → IsNetlist net → 0 < length net.gates → AreBlocksOf net blocks → IsCutOf net cut → a.vars ≡ first_gate net → d.vars ≡ a.vars →
    AreColumns a (order net) (map (rails_under a) given) → IsSolution net blocks cut d (values_under a given) solved → IsSolvedNetlist d blocks solved
solved-is net blocks cut a d given solved valid some are cut_is vars same columns solution = record {
  net = net;
  cut = cut;
  points = values_under a given;
  valid = valid;
  some = some;
  vars = same ∙ vars;
  blocks_are = are;
  cut_is = cut_is;
  points_are = λ u wide. columns.values u (wide ∙ sym vars);
  solution = solution;
}

-- the columns, and then the fixpoint
pub solution-adds : {T U : Type 0} {r : Result T StoreFault} {q : Result U StoreFault} {s a d : Arena} (net : Parts) (blocks : Blocks) (cut : Cut) (given : List KeptRails) → AreBlocksOf net blocks → IsCutOf net cut → s.vars ≡ first_gate net → a.vars ≡ s.vars → a.limit ≡ s.limit →
    AreColumns a (order net) (map (rails_under a) given) → AddsWithin r s a NoOtherCause (λ w. s.vars + 1 ≤ w) 2 →
    AddsWithin q a d (HasLargeCover net) (IsWide a.vars (IsWorking net (loops_by blocks cut) (values_under a given))) (10 * (length net.gates + 2) * effort net) →
    AddsWithin q s d (HasLargeCover net) (IsWide s.vars (IsLaid net)) (2 + 10 * (length net.gates + 2) * effort net)
solution-adds {s = s} {a = a} net blocks cut given are cut_is vars same limit columns before adds =
    adds_then limit (adds_moved (λ w wide. wide.variables) before)
    (adds_moved (λ w wide.
    working-wide net (values_under a given) (λ u long. columns.values u (long ∙ sym vars ∙ sym same)) a.vars (same ∙ vars) (loops_by blocks cut) (loops-are net blocks cut are cut_is)
    (subst (λ (n : ℕ). IsWide n (IsLaid net) w) (sym same) wide)) adds)

-- ---- the sum

sum-enough : (v gates effort : ℕ) → gates ≤ effort → 2 + (10 * (gates + 2) * effort + (v + gates + 6 * gates * (gates + 2))) ≤ 16 * (gates + 2) * (effort + v + 4)
sum-enough v gates effort less = grind arith

-- settling costs no more than is enough
pub cost-enough : (net : Parts) (w : ℕ) → w * settling_cost net ≤ enough net w
cost-enough net w =
    let most : ℕ = 16 * (length net.gates + 2) * (effort net + first_gate net + 4) in
    grind (arith, mul-le-mul_left {m = settling_cost net} {n = most} w (sum-enough (first_gate net) (length net.gates) (effort net) (gates-effort net.gates)), sum-enough (first_gate net) (length net.gates) (effort net) (gates-effort net.gates), gates-effort net.gates)

-- where a cover has more nodes than the limit, so has what is enough
pub over-enough : (net : Parts) (w limit : ℕ) → IsWide (first_gate net) (IsLaid net) w → HasLargeCover net limit → limit < enough net w
over-enough net w limit wide is = grind (arith, get_or-le-sum_by, effort-enough limit (effort net) w (length net.gates) (first_gate net))

-- a solution that finds new diagrams full
pub full-below : {T : Type 0} {r : Result T StoreFault} (net : Parts) (budget : ℕ) (s t : Arena) (vars : ℕ) → s ≡ empty vars budget → vars ≡ first_gate net → t.limit ≡ s.limit → AddsWithin r s t (HasLargeCover net) (IsWide s.vars (IsLaid net)) (settling_cost net) →
    r ≡ Err Full → IsBelowEnough net budget
full-below net budget s t vars is width limit adds full = record {
  below = λ w wide.
      let limits : s.limit ≡ budget = ap (λ (a : Arena). a.limit) is in
      let none : length s.entries ≡ 0 = ap (λ (a : Arena). length a.entries) is in
      elim (adds.full w (subst (λ (n : ℕ). IsWide n (IsLaid net) w) (sym (ap (λ (a : Arena). a.vars) is ∙ width)) wide) full) [
        | inl large ↦ over-enough net w budget wide (subst (HasLargeCover net) limits large)
        | inr past ↦ (let p = past.past in omega (arith, p, cost-enough net w))
      ];
}
