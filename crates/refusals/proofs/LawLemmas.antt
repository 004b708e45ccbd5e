-- The laws of refusals.
use Rattle.std.proofs.Common.{◌≡◌, ◌≢◌, inl, inr, ℕ, zero, suc, ◌+◌, ◌-◌, ◌<◌, ◌≤◌, Bool, true, false, not, ◌&&◌, cond, List, [], ◌∷◌, length, map, get_or, Option, Some, None, refl, sym, ap, ap₂, subst, ◌∙◌, arith, true≢false}
use Rattle.std.specs.Prelude.{find, filter, is_none, if◌then◌else◌}
use Rattle.std.specs.List.{list_any}
use Rattle.std.specs.Option.{option_or, option_map}
use Rattle.std.proofs.lemmas.Bool.{cases_lt, and_parts, not-true, not-false}
use Rattle.std.proofs.lemmas.List.{get_or_default}
use Rattle.cyc_base.specs.declared.sig.Sig.{Sig}
use Rattle.cyc_base.specs.declared.trit.Trit.TheVariants.{X}
use Rattle.cyc_base.specs.Values.{bits}
use Rattle.netlist.specs.declared.parts.Parts.{Parts}
use Rattle.netlist.specs.Netlists.{count, signal, IsNetlist, columns}
use Rattle.netlist.specs.Fixpoint.{wire, fix, IsInitialState}
use Rattle.care_sets.specs.Care.{CareSet, is_one, is_in_invariant, is_care_vector, IsCareVector}
use Rattle.refusals.specs.declared.refusal.Refusal.{Refusal}
use Rattle.refusals.specs.declared.refusal.Refusal.TheVariants.{Initial, EmptyCare, Undetermined, Leaves}
use Rattle.refusals.specs.declared.observe.Observe.{Observe}
use Rattle.refusals.specs.Acceptance.{Accepts, gate_sigs, observed, AreDetermined}
use Rattle.refusals.specs.Laws.{AcceptedWithoutRefusal, RefusalIsShown, InitialIsLeast, UndeterminedIsLeast, EarlierGatesAreDetermined, LeavesIsLeast, WithoutCareGatesAlone, UndeterminedIsObserved}
use Rattle.refusals.specs.Refusals.{is_initial, initial_states, care_vectors, is_empty, is_undetermined, is_among, observed_gates, first_failing, next_state, leaves, undetermined_refusal, refusal, IsRefusalOf, Proves}
use Rattle.cyc_base.specs.Vectors.{vectors, AtMost}
use Rattle.cyc_base.proofs.ListLemmas.{option_or-None, option_or-neither, option_map-nothing}
use Rattle.cyc_base.proofs.VectorLemmas.{find-none}
use Rattle.refusals.proofs.FirstLemmas.{find-filter, empty-filter, any-find, found_passes, none_passes, found_wide, found_least}
use Rattle.refusals.proofs.ShowingLemmas.{is_initial_decides, initial_state_is, length-initial_state, care_vector_decides, care_vector_is, is_x_decides}
use Rattle.refusals.proofs.ObservedLemmas.{member, among, observed_within, source_among}
use Rattle.refusals.proofs.RefusalLemmas.{second_fails, fails_after, known-is_x, is_x-known, column_known, SourcesAreKnown, next_state_is, bits_back, length-next_state, first_at, none_first, no_first, all-find_none, length-gate_sigs, gate_sig_at, FoundGate, found_gate, RefusedAt, AtInitial, AtEmpty, AtUndetermined, AtLeaves, refused_at}

-- a test of the care vectors, as one of all vectors
pub care_test : (net : Parts) (care : CareSet) (p : List Bool → Bool) → find p (care_vectors net care) ≡ find (λ v. is_care_vector net care v && p v) (vectors (columns net))
care_test net care p = find-filter p (is_care_vector net care) (vectors (columns net))

initial_test : (net : Parts) (p : List Bool → Bool) → find p (initial_states net) ≡ find (λ q. is_initial net q && p q) (vectors (length net.latches))
initial_test net p = find-filter p (is_initial net) (vectors (length net.latches))

-- a care vector that is found
record FoundCare (net : Parts) (care : CareSet) (p : List Bool → Bool) (v : List Bool) : Type 0 where
  pub counts : IsCareVector net care v
  pub passes : p v ≡ true
  pub least : (w : List Bool) → IsCareVector net care w → p w ≡ true → AtMost v w

found_care : (net : Parts) (care : CareSet) (p : List Bool → Bool) (v : List Bool) → find p (care_vectors net care) ≡ Some v → FoundCare net care p v
found_care net care p v is = grind (arith, care_test, found_wide, and_parts, found_passes, care_vector_decides, found_least, care_vector_is)

-- or none passes
none_care : (net : Parts) (care : CareSet) (p : List Bool → Bool) (w : List Bool) → find p (care_vectors net care) ≡ None → IsCareVector net care w → p w ≡ false
none_care net care p w is counts = grind (arith, second_fails, none_passes, care_test, care_vector_is)

no_care : (net : Parts) (care : CareSet) (p : List Bool → Bool) → ((w : List Bool) → IsCareVector net care w → p w ≡ false) → find p (care_vectors net care) ≡ None
no_care net care p fails = grind (arith, care_test, find-none, fails_after, care_vector_decides)

record FoundInitial (net : Parts) (p : List Bool → Bool) (q : List Bool) : Type 0 where
  pub width : length q ≡ length net.latches
  pub permitted : IsInitialState net q
  pub passes : p q ≡ true
  pub least : (w : List Bool) → IsInitialState net w → p w ≡ true → AtMost q w

found_initial : (net : Parts) (p : List Bool → Bool) (q : List Bool) → find p (initial_states net) ≡ Some q → FoundInitial net p q
found_initial net p q is = grind (arith, initial_test, found_wide, and_parts, found_passes, is_initial_decides, found_least, length-initial_state, initial_state_is)

none_initial : (net : Parts) (p : List Bool → Bool) (w : List Bool) → find p (initial_states net) ≡ None → IsInitialState net w → p w ≡ false
none_initial net p w is permitted = grind (arith, second_fails, none_passes, initial_test, length-initial_state, initial_state_is)

no_initial : (net : Parts) (p : List Bool → Bool) → ((w : List Bool) → IsInitialState net w → p w ≡ false) → find p (initial_states net) ≡ None
no_initial net p fails = grind (arith, initial_test, find-none, fails_after, is_initial_decides)

-- whether a gate is unknown at some vector that counts
abbrev pub is_loose : Parts → CareSet → Sig → Bool
is_loose net care s = list_any (is_undetermined net s) (care_vectors net care)

none_of_any : {T : Type 0} (p : T → Bool) (vs : List T) → list_any p vs ≡ false → find p vs ≡ None
none_of_any p vs e = grind (arith, any-find)

-- a test of the observed gates, as one of all gates
pub observed_test : (net : Parts) (what : Observe) (p : Sig → Bool) → find p (observed_gates net what) ≡ find (λ s. is_among (observed net what) s && p s) (gate_sigs net)
observed_test net what p = find-filter p (is_among (observed net what)) (gate_sigs net)

-- where no observed gate is undetermined, all observed signals are known
signal_determined : (net : Parts) (care : CareSet) (what : Observe) (v : List Bool) (s : Sig) → undetermined_refusal net care what ≡ None → IsCareVector net care v → s.0 < count net →
    (columns net ≤ s.0 → is_among (observed net what) s ≡ true) → wire (fix net (bits v)) s ≢ X
signal_determined net care what v s none counts inside seen = elim (cases_lt s.0 (columns net)) [
  | inl column ↦ column_known net v s counts.width column
  | inr gate ↦
      let k : ℕ = s.0 - columns net in
      let less : k < length net.gates = omega (arith, gate, inside) in
      let at : get_or (gate_sigs net) k s ≡ s = gate_sig_at net k s less ∙ ap signal (let e : columns net + k ≡ s.0 = omega (arith, gate) in e) in
      let nowhere : find (λ t. is_among (observed net what) t && is_loose net care t) (gate_sigs net) ≡ None =
      sym (observed_test net what (is_loose net care)) ∙ none_first (is_undetermined net) (observed_gates net what) (care_vectors net care) (option_map-nothing (λ (u : Sig × List Bool). Undetermined u.1 u.0) _ none) in
      let this : (is_among (observed net what) s && is_loose net care s) ≡ false =
      sym (ap (λ t. is_among (observed net what) t && is_loose net care t) at)
      ∙ all-find_none (λ t. is_among (observed net what) t && is_loose net care t) (gate_sigs net) k s nowhere (omega (arith, length-gate_sigs net, less)) in
      is_x-known (wire (fix net (bits v)) s)
      (none_care net care (is_undetermined net s) v (none_of_any (is_undetermined net s) (care_vectors net care) (second_fails (is_among (observed net what) s) (is_loose net care s) this (seen gate))) counts)
]

pub observed_determined : (net : Parts) (care : CareSet) (what : Observe) (v : List Bool) → IsNetlist net → undetermined_refusal net care what ≡ None → IsCareVector net care v →
    AreDetermined net v (observed net what)
observed_determined net care what v valid none counts k d inside =
    let s : Sig = get_or (observed net what) k d in
    signal_determined net care what v (get_or (observed net what) k d) none counts (observed_within net what valid k d inside)
    (λ gate. among (get_or (observed net what) k d) (observed net what) k inside (get_or_default (observed net what) k (get_or (observed net what) k d) d inside))

-- so is what the latches load
pub sources_determined : (net : Parts) (care : CareSet) (what : Observe) (v : List Bool) → IsNetlist net → undetermined_refusal net care what ≡ None → IsCareVector net care v →
    SourcesAreKnown net v
sources_determined net care what v valid none counts k d inside =
    signal_determined net care what v (get_or net.latches k d).from none counts (valid.sources k d inside) (source_among net what valid k d inside)

find_nowhere : {X : Type 0} (p : X → Bool) (xs : List X) → ((x : X) → p x ≡ false) → find p xs ≡ None
find_nowhere p [] h = refl
find_nowhere p (x ∷ xs) h = ap₂ (λ t o. cond t (Some x) o) (h x) (find_nowhere p xs h)

not_empty : (t : Bool) → (let nothing : Option Refusal = None in if t then Some EmptyCare else nothing) ≡ None → t ≡ false
not_empty t e = grind arith

-- a vector that isn't missing
there : {T : Type 0} (o : Option T) → is_none o ≡ false → (t : T) × (o ≡ Some t)
there o e = grind arith

accepts_without : (net : Parts) (care : CareSet) (what : Observe) → IsNetlist net → refusal net care what ≡ None → Accepts net care what
accepts_without net care what valid none =
    let first = option_or-neither _ _ none in
    let second = option_or-neither _ _ first.1 in
    let third = option_or-neither _ _ second.1 in
    let fourth = option_or-neither _ _ third.1 in
    let some = there (find (is_care_vector net care) (vectors (columns net))) (sym (empty-filter (is_care_vector net care) (vectors (columns net))) ∙ not_empty (is_empty (care_vectors net care)) second.0) in
    record {
      initial = λ q permitted. not-false (is_in_invariant care q) (none_initial net (λ w. not (is_in_invariant care w)) q (option_map-nothing Initial _ first.0) permitted);
      possible = record {
        vector = some.0;
        counts =
            care_vector_decides net care some.0 (found_wide (columns net) (is_care_vector net care) some.0 some.1)
            (found_passes (is_care_vector net care) (vectors (columns net)) some.0 some.1);
      };
      determined = λ v counts. observed_determined net care what v valid third.0 counts;
      closed = λ v counts. record {
        state = next_state net v;
        is = next_state_is net v (sources_determined net care what v valid third.0 counts);
        inside = not-false (is_in_invariant care (next_state net v)) (none_care net care (leaves net care) v (option_map-nothing (λ w. Leaves w (next_state net w)) _ fourth.0) counts);
      };
    }

without_accepts : (net : Parts) (care : CareSet) (what : Observe) → Accepts net care what → refusal net care what ≡ None
without_accepts net care what accepted =
    let first : find (λ q. not (is_in_invariant care q)) (initial_states net) ≡ None =
    no_initial net (λ q. not (is_in_invariant care q)) (λ w permitted. ap not (accepted.initial w permitted)) in
    let some : is_empty (care_vectors net care) ≡ false =
    by_empty (is_empty (care_vectors net care)) refl in
    let third : first_failing (is_undetermined net) (observed_gates net what) (care_vectors net care) ≡ None =
    no_first (is_undetermined net) (observed_gates net what) (care_vectors net care)
    (observed_test net what (is_loose net care) ∙ find_nowhere (λ s. is_among (observed net what) s && is_loose net care s) (gate_sigs net)
    (λ s. fails_after (is_among (observed net what) s) (is_loose net care s) (never_loose s))) in
    let fourth : find (leaves net care) (care_vectors net care) ≡ None = no_care net care (leaves net care) stays in
    ap₂ option_or (ap (option_map Initial) first)
    (ap₂ option_or (ap (λ t. let nothing : Option Refusal = None in if t then Some EmptyCare else nothing) some)
    (ap₂ option_or (ap (option_map (λ (u : Sig × List Bool). Undetermined u.1 u.0)) third)
    (ap (λ o. option_or (option_map (λ v. Leaves v (next_state net v)) o) None) fourth)))
  where
    by_empty : (t : Bool) → is_empty (care_vectors net care) ≡ t → is_empty (care_vectors net care) ≡ false
    by_empty t e = grind (arith, true≢false, care_vector_is, none_passes, empty-filter)

    never_loose : (s : Sig) → is_among (observed net what) s ≡ true → is_loose net care s ≡ false
    never_loose s seen = grind (arith, any-find, no_care, member, known-is_x)

    stays : (w : List Bool) → IsCareVector net care w → leaves net care w ≡ false
    stays w counts =
        let step = accepted.closed w counts in
        ap (λ q. not (is_in_invariant care q)) (ap (map is_one) step.is ∙ bits_back step.state) ∙ ap not step.inside

pub accepted_without_refusal : AcceptedWithoutRefusal
accepted_without_refusal net care what valid = (accepts_without net care what valid, without_accepts net care what)

-- the gate that refuses
found_observed : (net : Parts) (care : CareSet) (what : Observe) (s : Sig) → find (is_loose net care) (observed_gates net what) ≡ Some s → FoundGate net (λ x. is_among (observed net what) x && is_loose net care x) s
found_observed net care what s first = found_gate net (λ x. is_among (observed net what) x && is_loose net care x) s (sym (observed_test net what (is_loose net care)) ∙ first)

-- what a refusal shows
abbrev Shown : Parts → CareSet → Refusal → Type 0
Shown net care r = IsRefusalOf net r × (r ≢ EmptyCare → Proves net care r)

pub refusal_is_shown : RefusalIsShown
refusal_is_shown net care what r valid is = by_part (refused_at net care what r is)
  where
    by_part : RefusedAt net care what r → Shown net care r
    by_part (AtInitial q r_is found) =
        let h = found_initial net (λ w. not (is_in_invariant care w)) q found in
        subst (Shown net care) (sym r_is) (h.width, λ _. record { permitted = h.permitted; outside = not-true (is_in_invariant care q) h.passes })
    by_part (AtEmpty r_is) = subst (Shown net care) (sym r_is) (tt, λ other. absurd (other refl))
    by_part (AtUndetermined v s r_is found) =
        grind (arith, first_at (is_undetermined net) (observed_gates net what) (care_vectors net care) s v found, found_observed net care what s, found_care net care (is_undetermined net s) v, is_x_decides (wire (fix net (bits v)) s))
    by_part (AtLeaves v r_is none found) = grind (arith, found_care net care (leaves net care) v found, length-next_state net v, next_state_is net v, sources_determined net care what v valid none, not-true (is_in_invariant care (next_state net v)))

pub initial_is_least : InitialIsLeast
initial_is_least net care what q w is permitted outside = by_part (refused_at net care what (Initial q) is)
  where
    by_part : RefusedAt net care what (Initial q) → AtMost q w
    by_part (AtInitial p r_is found) =
        let same : p ≡ q = cc in
        subst (λ x. AtMost x w) same ((found_initial net (λ x. not (is_in_invariant care x)) p found).least w permitted (ap not outside))
    by_part (AtEmpty r_is) = cc
    by_part (AtUndetermined v s r_is found) = cc
    by_part (AtLeaves v r_is none found) = cc

pub undetermined_is_least : UndeterminedIsLeast
undetermined_is_least net care what v w s is counts unknown = by_part (refused_at net care what (Undetermined v s) is)
  where
    by_part : RefusedAt net care what (Undetermined v s) → AtMost v w
    by_part (AtInitial p r_is found) = cc
    by_part (AtEmpty r_is) = cc
    by_part (AtUndetermined u t r_is found) = grind (arith, first_at (is_undetermined net) (observed_gates net what) (care_vectors net care) t u found, found_care net care (is_undetermined net t) u)
    by_part (AtLeaves u r_is none found) = cc

pub earlier_gates_are_determined : EarlierGatesAreDetermined
earlier_gates_are_determined net care what v w s t is counts seen behind before = by_part (refused_at net care what (Undetermined v s) is)
  where
    by_part : RefusedAt net care what (Undetermined v s) → is_undetermined net t w ≡ false
    by_part (AtInitial p r_is found) = cc
    by_part (AtEmpty r_is) = cc
    by_part (AtUndetermined u x r_is found) =
        let same_s : x ≡ s = cc in
        let at = first_at (is_undetermined net) (observed_gates net what) (care_vectors net care) x u found in
        let earlier : t.0 < x.0 = subst (λ (y : Sig). t.0 < y.0) (sym same_s) before in
        none_care net care (is_undetermined net t) w
        (none_of_any (is_undetermined net t) (care_vectors net care)
        (second_fails (is_among (observed net what) t) (is_loose net care t) ((found_observed net care what x at.first).first t behind earlier) (among t (observed net what) seen.0 seen.1 seen.2))) counts
    by_part (AtLeaves u r_is none found) = cc

pub undetermined_is_observed : UndeterminedIsObserved
undetermined_is_observed net care what v s is = grind (arith, refused_at net care what, first_at (is_undetermined net) (observed_gates net what) (care_vectors net care), found_observed net care what, member, and_parts)

pub leaves_is_least : LeavesIsLeast
leaves_is_least net care what v w q is counts out = by_part (refused_at net care what (Leaves v q) is)
  where
    by_part : RefusedAt net care what (Leaves v q) → AtMost v w
    by_part (AtInitial p r_is found) = cc
    by_part (AtEmpty r_is) = cc
    by_part (AtUndetermined u t r_is found) = cc
    by_part (AtLeaves u r_is none found) = grind (arith, found_care net care (leaves net care) u found)

-- Without care models.

filter_all : {X : Type 0} (p : X → Bool) (xs : List X) → ((x : X) → p x ≡ true) → filter p xs ≡ xs
filter_all p [] h = refl
filter_all p (x ∷ xs) h = ap₂ (λ t rest. cond t (x ∷ rest) rest) (h x) (filter_all p xs h)

vectors_there : (n : ℕ) → is_empty (vectors n) ≡ false
vectors_there zero = refl
vectors_there (suc n) = grind (arith, vectors_there n)

pub without_care_gates_alone : WithoutCareGatesAlone
without_care_gates_alone net care what no_assume no_invariant =
    grind (arith, filter_all (is_care_vector net care) (vectors (columns net)), find_nowhere, vectors_there (columns net), find_nowhere (leaves net care) (care_vectors net care), option_or-None)
