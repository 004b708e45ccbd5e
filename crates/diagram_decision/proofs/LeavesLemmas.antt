-- The invariant on the next state, as a function of the decision.
use Rattle.std.proofs.Common.{◌≡◌, inl, inr, ℕ, ◌-◌, ◌<◌, ◌≤◌, Bool, true, false, not, ◌&&◌, List, [], ◌∷◌, length, map, get_or, Option, Some, None, refl, sym, ap, ◌∙◌, arith}
use Rattle.diagram_decision.proofs.Common.{option_map_or, cases_lt, get_or-map, get_or_past, get_or_append_left, length-map, Node, Arena, den, nodes, Sig, Trit, X, bits, IsWide, is_bit, Latch, Parts, wire, fix, fix_gates, next, IsNetlist, value_in, laid, CareModel, IsCareOf, CareSet, columns, is_one, holds_at, is_in_invariant, is_care_vector, leaves, next_state, care_vector_decides, read_by, IsOfModel, IsLaid, SaysCare, Tells, difference, HasValues}
use Rattle.netlist.specs.declared.parts.Init.TheVariants as inits
use Rattle.netlist.specs.Fixpoint.{outs}
use Rattle.netlist.proofs.FixpointLemmas.{get_or-fix, length-fix_gates}
use Rattle.loops.proofs.Reading.{wire_of_gate}
use Rattle.fixpoint.specs.Working.{read_at_fix}
use Rattle.care_sets.proofs.CareLemmas.{states_serve_invariant}
use Rattle.refusals.proofs.RefusalLemmas.{next_state_is, length-next_state}
use Rattle.diagram_decision.specs.Enough.{IsOfDecision, IsOfNext}
use Rattle.refusals.specs.Tests.{LoadsAreKnown}
use Rattle.diagram_decision.proofs.CareLemmas.{model_is, read-bits}
use Rattle.diagram_decision.proofs.DecisionLemmas.{vector_of, length-vector_of, laid-vector_of, decision_list, decision-wide, made-constant, made-laid}
use Rattle.diagram_decision.proofs.MadeLemmas.{IsMadeOf, made-listed, made-same, made-signal, wide-two}
use Rattle.diagram_decision.proofs.PartLemmas.{leaving-value}
use Rattle.diagram_decision.proofs.WorkLemmas.{there_and}

-- ---- the model's output on the next values

module _ (net : Parts) (care : CareSet) where
  -- where a value is 1, and where it is 0
  abbrev IsKnown : (List Bool → Trit) → Type 0
  IsKnown x = (b : Bool) → IsMadeOf net (IsOfDecision net care) (λ v. is_bit b (x v))

  known-same : (x y : List Bool → Trit) → ((v : List Bool) → y v ≡ x v) → IsKnown x → IsKnown y
  known-same x y same known b = made-same (λ v long. ap (is_bit b) (same v)) (known b)

  unknown : (x : List Bool → Trit) → ((v : List Bool) → x v ≡ X) → IsKnown x
  unknown x is b = made-constant (is_bit b X) (λ v. ap (is_bit b) (is v))

  module _ (valid : IsNetlist net) (model : CareModel) (there : care.invariant ≡ Some model) where
    -- what the model reads
    abbrev reads : List Bool → List Trit
    reads v = read_by model (next net (bits v))

    width : (v : List Bool) → length (reads v) ≡ length model.columns
    width v = length-map model.columns (λ column. get_or (next net (bits v)) (column - model.first) X)

    abbrev no_latch : Latch
    no_latch = record { name = []; from = record { 0 = 0 }; init = inits.Zero; clocked = false }

    -- what a list has at each place, where it has so many
    known-within : (xs : List Bool → List Trit) (n i : ℕ) → ((v : List Bool) → length (xs v) ≡ n) → (i < n → IsKnown (λ v. get_or (xs v) i X)) → IsKnown (λ v. get_or (xs v) i X)
    known-within xs n i long inside = grind (arith, cases_lt i n, unknown, get_or_past)

    next-known : (place : ℕ) → IsKnown (λ v. get_or (next net (bits v)) place X)
    next-known place = known-within (λ v. next net (bits v)) (length net.latches) place (λ v. length-map net.latches (λ (l : Latch). wire (fix net (bits v)) l.from)) (λ less.
        known-same (λ v. value_in (fix net (bits v)) (get_or net.latches place no_latch).from.0) (λ v. get_or (next net (bits v)) place X)
        (λ v. get_or-map (λ (l : Latch). wire (fix net (bits v)) l.from) net.latches place no_latch X less)
        (λ b. made-signal (decision_list net care) (get_or net.latches place no_latch).from.0 (valid.sources place no_latch less) b))

    read-known : (i : ℕ) → IsKnown (λ v. value_in (reads v) i)
    read-known i = known-within reads (length model.columns) i width (λ less.
        known-same (λ v. get_or (next net (bits v)) (get_or model.columns i 0 - model.first) X) (λ v. value_in (reads v) i)
        (λ v. get_or-map (λ column. get_or (next net (bits v)) (column - model.first) X) model.columns i 0 X less)
        (next-known (get_or model.columns i 0 - model.first)))

    gate-known : (gate : ℕ) → IsKnown (λ v. value_in (fix_gates model.net (reads v)) gate)
    gate-known gate = known-within (λ v. fix_gates model.net (reads v)) (length model.net.gates) gate (λ v. length-fix_gates model.net (reads v)) (λ less b.
        made-listed (IsOfNext (there_and care.invariant model (λ m. IsOfModel m (λ v. next net (bits v)) (λ v. is_bit b (value_in (fix_gates model.net (reads v)) gate))) there (record {
          gate = gate;
          within = less;
          first = [];
          short = omega arith;
          bit = b;
          read = λ v. read_at_fix model.net (reads v) gate;
          reads = inr (record { plain = refl; is = λ v. refl });
          same = λ v. ap (is_bit b) (get_or-fix model.net (reads v) gate less);
        }))) (λ v long. refl))

    signal-known : (i : ℕ) → IsKnown (λ v. value_in (fix model.net (reads v)) i)
    signal-known i = elim (cases_lt i (length model.columns)) [
      | inl low ↦ known-same (λ v. value_in (reads v) i) (λ v. value_in (fix model.net (reads v)) i)
          (λ v. let long = width v in get_or_append_left (reads v) (fix_gates model.net (reads v)) X i (omega (arith, low, long))) (read-known i)
      | inr high ↦ known-same (λ v. value_in (fix_gates model.net (reads v)) (i - length model.columns)) (λ v. value_in (fix model.net (reads v)) i)
          (λ v. wire_of_gate (reads v) (fix_gates model.net (reads v)) (length model.columns) i (width v) high) (gate-known (i - length model.columns))
    ]

    output-known : (outputs : List Sig) → IsKnown (λ v. get_or (map (wire (fix model.net (reads v))) outputs) 0 X)
    output-known [] = unknown (λ v. X) (λ v. refl)
    output-known (s ∷ rest) = signal-known s.0

    -- at a vector of care this is whether the next state is in the invariant
    one-bit : (t : Trit) → is_one t ≡ is_bit true t
    one-bit t = grind arith

    holds-is : (q v : List Bool) → HasValues q model → next net (bits v) ≡ bits q → holds_at model q ≡ is_bit true (get_or (outs model.net (reads v)) 0 X)
    holds-is q v has same =
        ap (λ (ts : List Trit). is_one (get_or (outs model.net ts) 0 X)) (sym (ap (read_by model) same ∙ read-bits model q has))
        ∙ one-bit (get_or (outs model.net (reads v)) 0 X)

-- ---- care vectors whose next state is not in the invariant

-- whether the next state is in the invariant, at vectors of care
record IsNextInside (net : Parts) (care : CareSet) : Type 0 where
  pub of : List Bool → Bool
  pub made : IsMadeOf net (IsOfDecision net care) of
  pub same : (v : List Bool) → length v ≡ columns net → is_care_vector net care v ≡ true → is_in_invariant care (next_state net v) ≡ of v

next-inside : (net : Parts) (care : CareSet) → IsNetlist net → IsCareOf net care → LoadsAreKnown net care → IsNextInside net care
next-inside net care valid bound loads = by care.invariant refl
  where
    by : (o : Option CareModel) → care.invariant ≡ o → IsNextInside net care
    by None none = record {
      of = λ v. true;
      made = made-constant true (λ v. refl);
      same = λ v long counts. ap (λ p. option_map_or (λ model. holds_at model (next_state net v)) p true) none;
    }
    by (Some model) there = record {
      of = λ v. is_bit true (get_or (outs model.net (read_by model (next net (bits v)))) 0 X);
      made = output-known net care valid model there model.net.outputs true;
      same = λ v long counts.
          let q : List Bool = next_state net v in
          let has : HasValues q model = model_is care.invariant model (HasValues q) there (states_serve_invariant net care q bound (length-next_state net v)) in
          let state : next net (bits v) ≡ bits q = next_state_is net v (loads v (care_vector_decides net care v long counts)) in
          ap (λ p. option_map_or (λ m. holds_at m q) p true) there ∙ holds-is net care valid model there q v has state;
    }

pub leaves-fit : (net : Parts) (care : CareSet) (a : Arena) (set inside : Node) {w : ℕ} → IsNetlist net → IsCareOf net care → LoadsAreKnown net care → a.vars ≡ columns net → Tells net a set (is_care_vector net care) →
    ((q v : List Bool) → length v ≡ a.vars → den a set (laid net v) ≡ true → next net (bits v) ≡ bits q → den a inside (laid net v) ≡ is_in_invariant care q) → IsWide a.vars (IsLaid net care) w →
    nodes a.vars (difference a set inside) ≤ w
leaves-fit net care a set inside valid bound loads vars told inside_is wide =
    let n = next-inside net care valid bound loads in
    wide-two (decision-wide vars wide) (λ p q. p && not q) (λ u. is_care_vector net care (vector_of net u)) (λ u. n.of (vector_of net u)) (difference a set inside)
    (made-laid (made-listed (SaysCare (λ v. refl)) (λ v long. refl))) (made-laid n.made)
    (λ u long.
    let v : List Bool = vector_of net u in
    ap (difference a set inside) (sym (laid-vector_of net u (long ∙ vars))) ∙ leaving-value inside vars told loads inside_is v (length-vector_of net u ∙ sym vars) ∙ by n v (length-vector_of net u) (is_care_vector net care v) refl)
  where
    by : (n : IsNextInside net care) (v : List Bool) → length v ≡ columns net → (b : Bool) → is_care_vector net care v ≡ b → (b && leaves net care v) ≡ (b && not (n.of v))
    by n v long h is = grind arith
