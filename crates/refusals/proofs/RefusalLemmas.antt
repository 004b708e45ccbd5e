-- The refusal of a netlist, part by part.
use Rattle.std.proofs.Common.{◌≡◌, ◌≢◌, inl, inr, ℕ, suc, ◌+◌, ◌-◌, ◌<◌, ◌≤◌, Bool, true, false, not, ◌&&◌, cond, List, [], ◌∷◌, length, map, get_or, slice_get, Option, Some, None, refl, sym, ap, ap₂, ◌∙◌, arith, true≢false}
use Rattle.std.specs.Prelude.{find, if◌then◌else◌}
use Rattle.std.specs.List.{All, list_any, range_with_len, position_or_len}
use Rattle.std.specs.Option.{option_map, option_and_then}
use Rattle.std.proofs.lemmas.Bool.{cases_lt, and_parts}
use Rattle.std.proofs.lemmas.List.{get_or-map, get_or-append-add, get_or_append_left, length-map}
use Rattle.std.proofs.lemmas.List.Folds.{find_at}
use Rattle.std.proofs.lemmas.List.FromFn.{get_or-map-range_with_len, length-range_with_len}
use Rattle.std.proofs.lemmas.List.Sums.{fails_before_first}
use Rattle.std.proofs.lemmas.Option.{get_or_from_slice_get, slice_get_within}
use Rattle.cyc_base.specs.declared.sig.Sig.{Sig}
use Rattle.cyc_base.specs.declared.trit.Trit.{Trit}
use Rattle.cyc_base.specs.declared.trit.Trit.TheVariants.{X}
use Rattle.cyc_base.specs.Values.{bit, bits}
use Rattle.cyc_base.proofs.OrderLemmas.{bit-known}
use Rattle.cyc_base.proofs.ListLemmas.{option_or-cases}
use Rattle.netlist.specs.declared.parts.Latch.{Latch}
use Rattle.netlist.specs.declared.parts.Parts.{Parts}
use Rattle.netlist.specs.Netlists.{count, signal, gate_sig, columns}
use Rattle.netlist.specs.Fixpoint.{wire, fix, fix_gates, next}
use Rattle.netlist.proofs.FixpointLemmas.{length-fix_gates}
use Rattle.care_sets.specs.Care.{CareSet, is_one, is_in_invariant}
use Rattle.refusals.specs.declared.refusal.Refusal.{Refusal}
use Rattle.refusals.specs.declared.refusal.Refusal.TheVariants.{Initial, EmptyCare, Undetermined, Leaves}
use Rattle.refusals.specs.declared.observe.Observe.{Observe}
use Rattle.refusals.specs.Acceptance.{gate_sigs}
use Rattle.refusals.specs.Refusals.{initial_states, care_vectors, is_empty, is_x, is_undetermined, observed_gates, first_failing, next_state, leaves, undetermined_refusal, refusal, IsGate}
use Rattle.refusals.proofs.FirstLemmas.{any-find, found_passes}

-- where the first test passes and and_parts don't, the second fails
pub second_fails : (a b : Bool) → (a && b) ≡ false → a ≡ true → b ≡ false
second_fails a b e h = grind arith

pub fails_after : (a b : Bool) → (a ≡ true → b ≡ false) → (a && b) ≡ false
fails_after a b h = grind arith

-- Wires.

pub length-bits : (v : List Bool) → length (bits v) ≡ length v
length-bits v = length-map v bit

pub gate_wire : (net : Parts) (v : List Bool) (k : ℕ) → length v ≡ columns net → wire (fix net (bits v)) (gate_sig net k) ≡ get_or (fix_gates net (bits v)) k X
gate_wire net v k wide = grind (arith, length-bits, get_or-append-add)

pub known-is_x : (t : Trit) → t ≢ X → is_x t ≡ false
known-is_x t h = grind arith

pub is_x-known : (t : Trit) → is_x t ≡ false → t ≢ X
is_x-known t e = grind arith

pub known_bit_is : (t : Trit) → t ≢ X → bit (is_one t) ≡ t
known_bit_is t h = grind arith

pub one_of_bit : (b : Bool) → is_one (bit b) ≡ b
one_of_bit b = grind arith

-- a column is known at each Boolean vector
pub column_known : (net : Parts) (v : List Bool) (s : Sig) → length v ≡ columns net → s.0 < columns net → wire (fix net (bits v)) s ≢ X
column_known net v s wide column = grind (arith, length-bits v, get_or_append_left (bits v) (fix_gates net (bits v)) X s.0, get_or-map bit v s.0 false X, bit-known (get_or v s.0 false))

-- where no gate is unknown, no signal is
pub wire_known : (net : Parts) (v : List Bool) (s : Sig) → length v ≡ columns net → All (λ value. value ≢ X) (fix_gates net (bits v)) → s.0 < count net →
    wire (fix net (bits v)) s ≢ X
wire_known net v s wide known inside =
    elim (cases_lt s.0 (columns net)) [
      | inl column ↦ column_known net v s wide column
      | inr gate ↦
          let k : ℕ = s.0 - columns net in
          let is : wire (fix net (bits v)) s ≡ get_or (fix_gates net (bits v)) k X =
          ap (λ n. get_or (fix net (bits v)) n X) (let e : s.0 ≡ columns net + k = omega arith in e) ∙ gate_wire net v k wide in
          λ x. known k X (omega (arith, length-fix_gates net (bits v))) (sym is ∙ x)
    ]

pub each_known : (values : List Trit) (latches : List Latch) → All (λ (l : Latch). wire values l.from ≢ X) latches →
    bits (map is_one (map (λ (l : Latch). wire values l.from) latches)) ≡ map (λ (l : Latch). wire values l.from) latches
each_known values [] h = refl
each_known values (l ∷ latches) h =
    ap₂ (λ t ts. t ∷ ts) (known_bit_is (wire values l.from) (h 0 l (omega arith))) (each_known values latches (λ k d inside. h (suc k) d (omega arith)))

-- what the latches load is known
abbrev pub SourcesAreKnown : Parts → List Bool → Type 0
SourcesAreKnown net v = All (λ (l : Latch). wire (fix net (bits v)) l.from ≢ X) net.latches

-- so the next state is known
pub next_state_is : (net : Parts) (v : List Bool) → SourcesAreKnown net v → next net (bits v) ≡ bits (next_state net v)
next_state_is net v known = sym (each_known (fix net (bits v)) net.latches known)

pub bits_back : (q : List Bool) → map is_one (bits q) ≡ q
bits_back [] = refl
bits_back (b ∷ q) = ap₂ (λ x xs. x ∷ xs) (one_of_bit b) (bits_back q)

pub length-next_state : (net : Parts) (v : List Bool) → length (next_state net v) ≡ length net.latches
length-next_state net v = grind (arith, length-map)

-- The first that fails among several, at some vector.

module _ {W V : Type 0} (fails : W → V → Bool) where
  -- with the first vector
  pub record FirstAt (among : List W) (vs : List V) (w : W) (v : V) : Type 0 where
    pub first : find (λ x. list_any (fails x) vs) among ≡ Some w
    pub least : find (fails w) vs ≡ Some v

  pub first_at : (among : List W) (vs : List V) (w : W) (v : V) → first_failing fails among vs ≡ Some (w, v) → FirstAt among vs w v
  first_at among vs w v is = grind arith

  -- or none fails at any
  pub none_first : (among : List W) (vs : List V) → first_failing fails among vs ≡ None → find (λ x. list_any (fails x) vs) among ≡ None
  none_first among vs is = grind (arith, true≢false, any-find, found_passes)

  pub no_first : (among : List W) (vs : List V) → find (λ x. list_any (fails x) vs) among ≡ None → first_failing fails among vs ≡ None
  no_first among vs none = ap (option_and_then (λ y. option_map (λ (u : V). let p : W × V = (y, u) in p) (find (fails y) vs))) none

-- what is found among several lies at some place, and none before it passes
pub find_none-all : {X : Type 0} (p : X → Bool) (xs : List X) → All (λ x. p x ≡ false) xs → find p xs ≡ None
find_none-all p [] h = refl
find_none-all p (x ∷ xs) h = ap₂ (λ t o. cond t (Some x) o) (h 0 x (omega arith)) (find_none-all p xs (λ k d inside. h (suc k) d (omega arith)))

pub all-find_none : {X : Type 0} (p : X → Bool) (xs : List X) (k : ℕ) (d : X) → find p xs ≡ None → k < length xs → p (get_or xs k d) ≡ false
all-find_none p [] k d none inside = absurd (omega arith)
all-find_none p (x ∷ xs) k d none inside = grind (arith, all-find_none p xs)

pub length-gate_sigs : (net : Parts) → length (gate_sigs net) ≡ length net.gates
length-gate_sigs net = length-map (range_with_len 0 (length net.gates)) (gate_sig net) ∙ length-range_with_len 0 (length net.gates)

pub gate_sig_at : (net : Parts) (k : ℕ) (d : Sig) → k < length net.gates → get_or (gate_sigs net) k d ≡ gate_sig net k
gate_sig_at net k d inside = get_or-map-range_with_len (gate_sig net) 0 (length net.gates) k k d inside (omega arith)

-- a gate that is found
pub record FoundGate (net : Parts) (p : Sig → Bool) (s : Sig) : Type 0 where
  pub gate : IsGate net s
  pub passes : p s ≡ true
  pub first : (t : Sig) → columns net ≤ t.0 → t.0 < s.0 → p t ≡ false

pub found_gate : (net : Parts) (p : Sig → Bool) (s : Sig) → find p (gate_sigs net) ≡ Some s → FoundGate net p s
found_gate net p s is =
    let place : ℕ = position_or_len p (gate_sigs net) in
    let at : slice_get (gate_sigs net) place ≡ Some s = sym (find_at p (gate_sigs net)) ∙ is in
    let inside : place < length (gate_sigs net) = slice_get_within (gate_sigs net) place s at in
    let sig_is : gate_sig net place ≡ s =
    sym (gate_sig_at net place s (omega (arith, length-gate_sigs net))) ∙ get_or_from_slice_get (gate_sigs net) place s s at in
    let number : s.0 ≡ columns net + place = sym (ap (λ (t : Sig). t.0) sig_is) in
    record {
      gate = record { behind = omega arith; within = omega (arith, length-gate_sigs net) };
      passes = found_passes p (gate_sigs net) s is;
      first = λ t behind before.
          let k : ℕ = t.0 - columns net in
          let same : get_or (gate_sigs net) k s ≡ t =
          gate_sig_at net k s (omega (arith, length-gate_sigs net)) ∙ ap signal (let e : columns net + k ≡ t.0 = omega arith in e) in
          ap p (sym same) ∙ fails_before_first p (gate_sigs net) k s (omega arith);
    }

-- The parts of a refusal.

pub record Mapped {A B : Type 0} (f : A → B) (o : Option A) (r : B) : Type 0 where
  pub value : A
  pub there : o ≡ Some value
  pub is : r ≡ f value

pub mapped : {A B : Type 0} (f : A → B) (o : Option A) (r : B) → option_map f o ≡ Some r → Mapped f o r
mapped f o r e = grind arith

-- which part refuses, and with what
pub data RefusedAt (net : Parts) (care : CareSet) (what : Observe) (r : Refusal) : Type 0 where
  AtInitial : (q : List Bool) → r ≡ Initial q → find (λ w. not (is_in_invariant care w)) (initial_states net) ≡ Some q → RefusedAt net care what r
  AtEmpty : r ≡ EmptyCare → RefusedAt net care what r
  AtUndetermined : (v : List Bool) (s : Sig) → r ≡ Undetermined v s → first_failing (is_undetermined net) (observed_gates net what) (care_vectors net care) ≡ Some (s, v) → RefusedAt net care what r
  AtLeaves : (v : List Bool) → r ≡ Leaves v (next_state net v) → undetermined_refusal net care what ≡ None → find (leaves net care) (care_vectors net care) ≡ Some v → RefusedAt net care what r

pub empty_case : (t : Bool) (r : Refusal) → (let nothing : Option Refusal = None in if t then Some EmptyCare else nothing) ≡ Some r → r ≡ EmptyCare
empty_case t r e = grind arith

pub refused_at : (net : Parts) (care : CareSet) (what : Observe) (r : Refusal) → refusal net care what ≡ Some r → RefusedAt net care what r
refused_at net care what r is =
    elim (option_or-cases _ _ r is) [
      | inl first ↦ let m = mapped Initial _ r first in AtInitial m.value m.is m.there
      | inr after ↦
          elim (option_or-cases _ _ r after.1) [
            | inl second ↦ AtEmpty (empty_case (is_empty (care_vectors net care)) r second)
            | inr later ↦
                elim (option_or-cases _ _ r later.1) [
                  | inl third ↦
                      let m = mapped (λ (u : Sig × List Bool). Undetermined u.1 u.0) _ r third in AtUndetermined m.value.1 m.value.0 m.is m.there
                  | inr last ↦
                      elim (option_or-cases _ _ r last.1) [
                        | inl fourth ↦
                            let m = mapped (λ v. Leaves v (next_state net v)) _ r fourth in AtLeaves m.value m.is last.0 m.there
                        | inr none ↦ cc
                      ]
                ]
          ]
    ]
