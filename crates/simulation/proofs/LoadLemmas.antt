-- The wires hold the vector that they were given.
use Rattle.std.proofs.Common.{◌≡◌, ◌≢◌, inl, inr, ℕ, ◌+◌, ◌-◌, ◌<◌, List, ◌++◌, length, get_or, set, refl, sym, ◌∙◌, subst, arith}
use Rattle.simulation.proofs.Common.{cases_lt, cases_eq, get_or-set_same, get_or-set_other, Sig, Trit, X, Parts, count, gate_sig, wire, fix, fix_gates, Blocks, AreBlocksOf, first_gate, AreSettled, vector_of}
use Rattle.std.proofs.lemmas.List.{get_or-take, length-append, get_or_append_left, get_or-append_right, ext_get_or, take-set-le}
use Rattle.netlist.specs.Netlists.{signal}
use Rattle.netlist.proofs.FixpointLemmas.{length-steps}
use Rattle.simulation.proofs.PinLemmas.{signal_cases, length-vector, wire-vector, wire-input}

-- the signals from this number on have the first k of these values, and those before are as they were
pub record AreLoaded (first : ℕ) (given : List Trit) (k : ℕ) (old new : List Trit) : Type 0 where
  pub loaded : (i : ℕ) → i < k → get_or new (first + i) X ≡ get_or given i X
  pub before : (i : ℕ) → i < first → get_or new i X ≡ get_or old i X

pub loaded_more : (first : ℕ) (given : List Trit) (k : ℕ) (old new : List Trit) (value : Trit) → first + k < length new → get_or given k X ≡ value → AreLoaded first given k old new → AreLoaded first given (k + 1) old (set new (first + k) value)
loaded_more first given k old new value within at h = record {
  loaded = λ i l.
      elim (cases_eq i k) [
        | inl e ↦ rw (e, at) (get_or-set_same new (first + k) value X within)
        | inr ne ↦
            let other : first + i ≢ first + k = λ same. ne (omega arith) in
            get_or-set_other new (first + k) (first + i) value X other ∙ h.loaded i (omega (arith, ne))
      ];
  before = λ i l.
      let other : i ≢ first + k = λ same. omega arith in
      get_or-set_other new (first + k) i value X other ∙ h.before i l;
}

pub vector_loaded : (net : Parts) (inputs latches before between after : List Trit) → length after ≡ count net → length inputs ≡ length net.inputs → length latches ≡ length net.latches →
    ((i : ℕ) → i < length inputs → get_or between (0 + i) X ≡ get_or inputs i X) →
    ((i : ℕ) → i < length latches → get_or after (length net.inputs + i) X ≡ get_or latches i X) →
    ((i : ℕ) → i < length net.inputs → get_or after i X ≡ get_or between i X) →
    vector_of net after ≡ inputs ++ latches
vector_loaded net inputs latches before between after width wide narrow one two kept =
    let size : length (vector_of net after) ≡ first_gate net = length-vector net after width in
    ext_get_or X (vector_of net after) (inputs ++ latches) (size ∙ omega (arith, length-append inputs latches)) (λ i l.
    get_or-take (first_gate net) after i X (omega arith)
    ∙ elim (cases_lt i (length inputs)) [
      | inl low ↦
          let same : 0 + i ≡ i = omega arith in
          let first : get_or between i X ≡ get_or inputs i X = rw same at (one i low) in
          kept i (omega arith) ∙ first ∙ sym (get_or_append_left inputs latches X i low)
      | inr high ↦
          let place : length net.inputs + (i - length inputs) ≡ i = omega arith in
          let second : get_or after i X ≡ get_or latches (i - length inputs) X = rw place at (two (i - length inputs) (omega arith)) in
          second ∙ sym (get_or-append_right inputs latches (length inputs) i X refl high)
    ])

-- the vector stays where a gate changes
pub vector-set : (net : Parts) (values : List Trit) (n : ℕ) (x : Trit) → vector_of net (set values (gate_sig net n).0 x) ≡ vector_of net values
vector-set net values n x = take-set-le (first_gate net) values (first_gate net + n) x (omega arith)

pub length-fix : (net : Parts) (v : List Trit) → length v ≡ first_gate net → length (fix net v) ≡ count net
length-fix net v w = omega (arith, length-append v (fix_gates net v), length-steps net v (length net.gates))

-- where all blocks are settled, the wires are the fixpoint
pub all_settled : (net : Parts) (blocks : Blocks) → AreBlocksOf net blocks → (values : List Trit) → length values ≡ count net → AreSettled net blocks values (length blocks.list) → values ≡ fix net (vector_of net values)
all_settled net blocks are values width settled =
    let v = vector_of net values in
    let wide : length v ≡ first_gate net = length-vector net values width in
    ext_get_or X values (fix net v) (width ∙ sym (length-fix net v wide)) (λ i l.
    let s : Sig = signal i in
    let same : wire values s ≡ wire (fix net v) s =
    elim (signal_cases net s (omega arith)) [
      | inl low ↦ wire-vector net values s low ∙ sym (wire-input net v (fix_gates net v) s wide low)
      | inr g ↦ subst (λ (t : Sig). wire values t ≡ wire (fix net v) t) (sym g.is) (settled.each g.number g.within (are.home g.number g.within))
    ] in
    same)
