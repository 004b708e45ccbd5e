-- A loop rises from all unknown to the fixpoint.
use Rattle.std.proofs.Common.{◌≡◌, ◌≢◌, inl, inr, ℕ, zero, suc, ◌+◌, ◌<◌, ◌≤◌, ◌==◌, Bool, true, List, [], ◌∷◌, ◌++◌, length, filter, get_or, set, refl, ap, sym, ◌∙◌, subst, arith, Contains, eq-eqb}
use Rattle.simulation.proofs.Common.{cases_lt, cases_eq, eqb-true, get_or-set_same, get_or-set_other, Sig, Trit, X, Below, Parts, gate_at, gate_sig, wire, gate_value, fix, fix_gates, home_of, first_gate, readers_of, AreKept, AreSettled, is_due, vector_of, IsRising, work_left}
use Rattle.std.proofs.lemmas.List.{length-append}
use Rattle.std.proofs.lemmas.List.Elements.{Contains-append_left, Contains-append_right}
use Rattle.std.specs.declared.option.Option.{Option}
use Rattle.std.specs.Prelude.{Some, None}
use Rattle.cyc_base.specs.declared.trit.Trit.TheVariants.{Zero, One}
use Rattle.cyc_base.proofs.OrderLemmas.{Below-refl}
use Rattle.cyc_base.proofs.ListLemmas.{Contains-filter, filter-no_longer, Contains-there, Contains-cases, Contains-nothing}
use Rattle.cover_logic.specs.Extensions.{ext}
use Rattle.loops.proofs.Reading.{Contains-filter_from}
use Rattle.ternary_run.specs.Settling.{Determines, IsNewValue}
use Rattle.ternary_run.proofs.SettlingLemmas.{known_or_still}
use Rattle.ternary_run.proofs.ReadingLemmas.{reads_or_same}
use Rattle.simulation.proofs.ListLemmas.{append_cases}
use Rattle.simulation.specs.declared.plan.Plan.{Plan}
use Rattle.simulation.specs.Plans.{IsPlanOf}
use Rattle.simulation.specs.Rising.{readers_inside, unknown_values, count_reads}
use Rattle.simulation.proofs.PinLemmas.{value_below, signal_cases, pin_within, pin-before, wire-input, fix-gate, length-vector, wire-vector}
use Rattle.simulation.proofs.BlockLemmas.{block_settled}
use Rattle.simulation.proofs.LoadLemmas.{vector-set}
use Rattle.simulation.proofs.GateLemmas.{at_fix, settled_set}

same_below : (a b : Trit) → a ≡ b → Below a b
same_below a b e = subst (λ x. Below a x) e (Below-refl a)

-- the cover of a gate of the loop tells no more than the fixpoint
pub value_stays_below : (net : Parts) (plan : Plan) (place : ℕ) (values : List Trit) (due : List Bool) (waiting : List ℕ) → IsPlanOf net plan → IsRising net plan place values due waiting →
    (n : ℕ) → n < length net.gates → home_of plan.blocks n ≡ place → Below (gate_value values (gate_at net n)) (wire (fix net (vector_of net values)) (gate_sig net n))
value_stays_below net plan place values due waiting is h n l home =
    let v = vector_of net values in
    let wide : length v ≡ first_gate net = length-vector net values h.kept.width in
    let pins : (s : Sig) → Contains (gate_at net n).pins s → Below (wire values s) (wire (fix net v) s) =
    λ s c.
    elim (signal_cases net s (pin_within net is.netlist n s l c)) [
      | inl low ↦
          same_below (wire values s) (wire (fix net v) s)
          (wire-vector net values s low ∙ sym (wire-input net v (fix_gates net v) s wide low))
      | inr m ↦
          let before = pin-before net plan.blocks is.blocks m.number n s m.within l m.is c in
          elim (cases_lt (home_of plan.blocks m.number) place) [
            | inl early ↦
                same_below (wire values s) (wire (fix net v) s)
                (subst (λ (t : Sig). wire values t ≡ wire (fix net v) t) (sym m.is) (h.settled.each m.number m.within early))
            | inr late ↦
                subst (λ (t : Sig). Below (wire values t) (wire (fix net v) t)) (sym m.is)
                (h.below m.number m.within (omega arith))
          ]
    ] in
    subst (λ x. Below (gate_value values (gate_at net n)) x) (sym (fix-gate net v n wide l))
    (value_below (gate_at net n) values (fix net v) pins)

-- a gate that has no new value needs to wait no longer
pub gate_unchanged : (net : Parts) (plan : Plan) (place : ℕ) (values : List Trit) (due : List Bool) (g : ℕ) (waiting : List ℕ) → IsRising net plan place values due (g ∷ waiting) → IsNewValue net values g None → IsRising net plan place values due waiting
gate_unchanged net plan place values due g waiting h none = record {
  kept = h.kept;
  settled = h.settled;
  unsettled = h.unsettled;
  below = h.below;
  gates = λ n c. h.gates n (Contains-there g waiting n c);
  inside = λ n c. h.inside n (Contains-there g waiting n c);
  still = λ n l home e.
      elim (h.still n l home e) [
        | inl c ↦
            elim (Contains-cases g waiting n c) [
              | inl same ↦
                  let unknown : wire values (gate_sig net g) ≡ X = rw same e in
                  inr (subst (λ (m : ℕ). gate_value values (gate_at net m) ≡ X) same (none unknown))
              | inr later ↦ inl later
            ]
        | inr x ↦ inr x
      ];
}

-- what the readers inside the block are
inside_from : (plan : Plan) (place : ℕ) (s : Sig) (n : ℕ) → Contains (readers_inside plan place s) n → (home_of plan.blocks n ≡ place) × Contains (readers_of plan.readers s) n
inside_from plan place s n c =
    let parts = Contains-filter_from (λ m. home_of plan.blocks m == place) (readers_of plan.readers s) n c in
    (eqb-true (home_of plan.blocks n) place parts.0, parts.1)

listed_within : (net : Parts) (plan : Plan) (s : Sig) (n : ℕ) → IsPlanOf net plan → Contains (readers_of plan.readers s) n → n < length net.gates
listed_within net plan s n is c = subst (λ (m : ℕ). m < length net.gates) c.2 (is.readers.gates s c.0 n c.1)

-- where a gate becomes known, its readers in the block wait once more
pub gate_determined : (net : Parts) (plan : Plan) (place : ℕ) (values : List Trit) (due new : List Bool) (g : ℕ) (waiting : List ℕ) (value : Trit) → IsPlanOf net plan → IsRising net plan place values due (g ∷ waiting) → Determines net values g value →
    AreKept net plan.blocks (set values (gate_sig net g).0 value) new → is_due new place ≡ true →
    IsRising net plan place (set values (gate_sig net g).0 value) new (waiting ++ readers_inside plan place (gate_sig net g))
gate_determined net plan place values due new g waiting value is h d kept unsettled =
    let here : Contains (g ∷ waiting) g = (zero, omega arith, refl) in
    let within : g < length net.gates = h.gates g here in
    let home : home_of plan.blocks g ≡ place = h.inside g here in
    let s : Sig = gate_sig net g in
    let vector : (n : ℕ) → wire (fix net (vector_of net values)) (gate_sig net n) ≡ wire (fix net (vector_of net (set values s.0 value))) (gate_sig net n) =
    λ n. ap (λ (v : List Trit). wire (fix net v) (gate_sig net n)) (sym (vector-set net values g value)) in
    let width = h.kept.width in
    let now : wire (set values s.0 value) s ≡ value = get_or-set_same values s.0 value X (omega arith) in
    record {
      kept = kept;
      settled = settled_set net plan.blocks values place g value (omega arith) h.settled;
      unsettled = unsettled;
      below = λ n l k.
          elim (cases_eq n g) [
            | inl e ↦
                let low : Below value (wire (fix net (vector_of net values)) (gate_sig net g)) =
                rw d.is (value_stays_below net plan place values due (g ∷ waiting) is h g within home) in
                rw (e, now, ← vector g) low
            | inr ne ↦
                let other : (gate_sig net n).0 ≢ s.0 = λ same. ne (omega arith) in
                rw (get_or-set_other values s.0 (gate_sig net n).0 value X other, ← vector n) (h.below n l k)
          ];
      gates = λ n c.
          elim (append_cases waiting (readers_inside plan place s) n c) [
            | inl w ↦ h.gates n (Contains-there g waiting n w)
            | inr r ↦ listed_within net plan s n is (inside_from plan place s n r).1
          ];
      inside = λ n c.
          elim (append_cases waiting (readers_inside plan place s) n c) [
            | inl w ↦ h.inside n (Contains-there g waiting n w)
            | inr r ↦ (inside_from plan place s n r).0
          ];
      still = λ n l k e.
          elim (cases_eq n g) [
            | inl same ↦
                let known : value ≡ X = sym now ∙ subst (λ (m : ℕ). wire (set values s.0 value) (gate_sig net m) ≡ X) same e in
                absurd (d.known known)
            | inr ne ↦
                let other : (gate_sig net n).0 ≢ s.0 = λ same. ne (omega arith) in
                let unknown : wire values (gate_sig net n) ≡ X = sym (get_or-set_other values s.0 (gate_sig net n).0 value X other) ∙ e in
                elim (h.still n l k unknown) [
                  | inl c ↦
                      elim (Contains-cases g waiting n c) [
                        | inl same ↦ absurd (ne (sym same))
                        | inr later ↦ inl (Contains-append_left waiting (readers_inside plan place s) n later)
                      ]
                  | inr x ↦
                      elim (reads_or_same (gate_at net n).pins values s value) [
                        | inl reads ↦
                            inl
                            (Contains-append_right waiting (readers_inside plan place s) n
                            (Contains-filter (λ m. home_of plan.blocks m == place) (readers_of plan.readers s) n
                            (eq-eqb (home_of plan.blocks n) place k) (is.readers.each n s l reads)))
                        | inr same ↦ inr (ap (ext (gate_at net n).cover) same ∙ x)
                      ]
                ]
          ];
    }

-- where no gate waits, the block is settled
pub risen : (net : Parts) (plan : Plan) (place : ℕ) (values : List Trit) (due : List Bool) → IsPlanOf net plan → IsRising net plan place values due [] → AreSettled net plan.blocks values (place + 1)
risen net plan place values due is h =
    let v = vector_of net values in
    let done =
    block_settled net is.netlist plan.blocks is.blocks v values place (length-vector net values h.kept.width)
    (at_fix net is.netlist plan.blocks is.blocks values place h.settled) h.below
    (λ n l k.
    known_or_still (wire values (gate_sig net n)) (wire (fix net v) (gate_sig net n)) (gate_value values (gate_at net n))
    (h.below n l k) (value_stays_below net plan place values due [] is h n l k)
    (λ e. elim (h.still n l k e) [ inl c ↦ absurd (Contains-nothing n c) | inr x ↦ x ])) in
    record { each = done.gates }

-- the work that is left falls
unknown_falls : (values : List Trit) (i : ℕ) (x : Trit) → i < length values → get_or values i X ≡ X → x ≢ X → suc (unknown_values (set values i x)) ≡ unknown_values values
unknown_falls [] i x l e k = absurd (omega arith)
unknown_falls (X ∷ values) zero X l e k = absurd (k refl)
unknown_falls (X ∷ values) zero Zero l e k = refl
unknown_falls (X ∷ values) zero One l e k = refl
unknown_falls (Zero ∷ values) zero x l e k = absurd (let no_case : ⊥ = cc in no_case)
unknown_falls (One ∷ values) zero x l e k = absurd (let no_case : ⊥ = cc in no_case)
unknown_falls (X ∷ values) (suc i) x l e k = ap suc (unknown_falls values i x (omega arith) e k)
unknown_falls (Zero ∷ values) (suc i) x l e k = unknown_falls values i x (omega arith) e k
unknown_falls (One ∷ values) (suc i) x l e k = unknown_falls values i x (omega arith) e k

few_readers : (lists : List (List ℕ)) (i : ℕ) → length (get_or lists i []) ≤ count_reads lists
few_readers [] i = omega arith
few_readers (readers ∷ lists) zero = omega arith
few_readers (readers ∷ lists) (suc i) = omega (arith, few_readers lists i)

pub determined_falls : (net : Parts) (plan : Plan) (place : ℕ) (values : List Trit) (due : List Bool) (g : ℕ) (waiting : List ℕ) (value : Trit) → IsRising net plan place values due (g ∷ waiting) → Determines net values g value →
    work_left plan (set values (gate_sig net g).0 value) (waiting ++ readers_inside plan place (gate_sig net g)) < work_left plan values (g ∷ waiting)
determined_falls net plan place values due g waiting value h d =
    let s : Sig = gate_sig net g in
    let within : g < length net.gates = h.gates g (zero, omega arith, refl) in
    let width = h.kept.width in
    let less = unknown_falls values s.0 value (omega arith) d.unknown d.known in
    let few : length (readers_inside plan place s) ≤ length (readers_of plan.readers s) = filter-no_longer (λ n. home_of plan.blocks n == place) (readers_of plan.readers s) in
    let bound = few_readers plan.readers s.0 in
    let all : length (waiting ++ readers_inside plan place s) ≡ length waiting + length (readers_inside plan place s) = length-append waiting (readers_inside plan place s) in
    grind arith

pub unchanged_falls : (plan : Plan) (values : List Trit) (g : ℕ) (waiting : List ℕ) → work_left plan values waiting < work_left plan values (g ∷ waiting)
unchanged_falls plan values g waiting = omega arith

-- the same of what code has
pub gate_determined_at : (net : Parts) (plan : Plan) (place : ℕ) (values after : List Trit) (due new : List Bool) (g : ℕ) (waiting queue : List ℕ) (r : Option Trit) (value : Trit) (s : Sig) (readers home : List ℕ) → IsPlanOf net plan → IsRising net plan place values due (g ∷ waiting) → IsNewValue net values g r →
    r ≡ Some value → s ≡ gate_sig net g → after ≡ set values s.0 value → readers ≡ readers_of plan.readers s → home ≡ plan.blocks.home → queue ≡ waiting ++ filter (λ n. get_or home n 0 == place) readers →
    AreKept net plan.blocks after new → is_due new place ≡ true → IsRising net plan place after new queue
gate_determined_at net plan place values after due new g waiting queue r value s readers home is h n some sig set_is readers_are home_is queue_is kept unsettled =
    rw (queue_is, readers_are, home_is, set_is, sig)
    (gate_determined net plan place values due new g waiting value is h (rw some at n) (rw (set_is, sig) at kept) unsettled)

pub determined_falls_at : (net : Parts) (plan : Plan) (place : ℕ) (values after : List Trit) (due : List Bool) (g : ℕ) (waiting queue : List ℕ) (r : Option Trit) (value : Trit) (s : Sig) (readers home : List ℕ) → IsRising net plan place values due (g ∷ waiting) → IsNewValue net values g r →
    r ≡ Some value → s ≡ gate_sig net g → after ≡ set values s.0 value → readers ≡ readers_of plan.readers s → home ≡ plan.blocks.home → queue ≡ waiting ++ filter (λ n. get_or home n 0 == place) readers →
    work_left plan after queue < work_left plan values (g ∷ waiting)
determined_falls_at net plan place values after due g waiting queue r value s readers home h n some sig set_is readers_are home_is queue_is = grind (arith, determined_falls net plan place values due g waiting value h)

pub waiting_gate : (net : Parts) (plan : Plan) (place : ℕ) (values : List Trit) (due : List Bool) (g : ℕ) (waiting : List ℕ) → IsRising net plan place values due (g ∷ waiting) → g < length net.gates
waiting_gate net plan place values due g waiting h = h.gates g (zero, omega arith, refl)
