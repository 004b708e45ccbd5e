-- The refusal of a netlist on a care set: the first part of acceptance that fails, with its least witness.
use Rattle.std.specs.Prelude.{◌≡◌, ◌≤◌, ◌<◌, Bool, true, false, not, List, [], ◌∷◌, length, map, zip, filter, find, Some, None, if◌then◌else◌, option_map}
use Rattle.std.specs.declared.option.Option.{Option}
use Rattle.std.specs.List.{list_all, list_any}
use Rattle.std.specs.Option.{option_and_then}
use Rattle.cyc_base.specs.declared.sig.Sig.{Sig}
use Rattle.cyc_base.specs.declared.trit.Trit.{Trit}
use Rattle.cyc_base.specs.declared.trit.Trit.TheVariants.{Zero, One, X}
use Rattle.cyc_base.specs.Values.{bits}
use Rattle.netlist.specs.declared.parts.Init.{Init}
use Rattle.netlist.specs.declared.parts.Init.TheVariants as inits
use Rattle.netlist.specs.declared.parts.Parts.{Parts}
use Rattle.netlist.specs.Faults.{first_there}
use Rattle.netlist.specs.Fixpoint.{wire, fix, next, IsInitialState}
use Rattle.netlist.specs.Netlists.{count, sig_eq, columns}
use Rattle.care_sets.specs.Care.{CareSet, is_one, is_in_invariant, is_care_vector, IsCareVector}
use Rattle.refusals.specs.declared.observe.Observe.{Observe}
use Rattle.refusals.specs.declared.refusal.Refusal.{Refusal}
use Rattle.refusals.specs.declared.refusal.Refusal.TheVariants.{Initial, EmptyCare, Undetermined, Leaves}
use Rattle.refusals.specs.Acceptance.{gate_sigs, observed}
use Rattle.cyc_base.specs.Vectors.{vectors}

-- a latch may start with this value
abbrev pub may_start : Init → Bool → Bool
may_start inits.Zero b = not b
may_start inits.One b = b
may_start inits.Either b = true

-- the latches may start with these values, of which there is one for each
abbrev pub is_initial : Parts → List Bool → Bool
is_initial net q = list_all (λ p. may_start p.0.init p.1) (zip net.latches q)

-- the states that the inits permit, and the vectors that count, in lexicographic order
abbrev pub initial_states : Parts → List (List Bool)
initial_states net = filter (is_initial net) (vectors (length net.latches))

abbrev pub care_vectors : Parts → CareSet → List (List Bool)
care_vectors net care = filter (is_care_vector net care) (vectors (columns net))

abbrev pub is_empty : {T : Type 0} → List T → Bool
is_empty [] = true
is_empty (x ∷ xs) = false

abbrev pub is_x : Trit → Bool
is_x X = true
is_x Zero = false
is_x One = false

-- the value is known, and is this one
abbrev pub is_value : Trit → Bool → Bool
is_value Zero b = not b
is_value One b = b
is_value X b = false

-- the wire is unknown in the fixpoint at a vector
abbrev pub is_undetermined : Parts → Sig → List Bool → Bool
is_undetermined net s v = is_x (wire (fix net (bits v)) s)

-- one of these signals
abbrev pub is_among : List Sig → Sig → Bool
is_among signals s = list_any (sig_eq s) signals

-- the gates among the observed signals, in flat order
abbrev pub observed_gates : Parts → Observe → List Sig
observed_gates net what = filter (is_among (observed net what)) (gate_sigs net)

-- the first of these that fails at one of the vectors, with the first such vector
abbrev pub first_failing : {W V : Type 0} → (W → V → Bool) → List W → List V → Option (W × V)
first_failing fails among vs =
    option_and_then (λ w. option_map (λ v. (w, v)) (find (fails w) vs)) (find (λ w. list_any (fails w) vs) among)

-- the latches' next state at a vector on which their sources are known
abbrev pub next_state : Parts → List Bool → List Bool
next_state net v = map is_one (next net (bits v))

-- that state isn't in the invariant
abbrev pub leaves : Parts → CareSet → List Bool → Bool
leaves net care v = not (is_in_invariant care (next_state net v))

-- each part, where it fails
abbrev pub initial_refusal : Parts → CareSet → Option Refusal
initial_refusal net care = option_map Initial (find (λ q. not (is_in_invariant care q)) (initial_states net))

abbrev pub empty_refusal : Parts → CareSet → Option Refusal
empty_refusal net care = if is_empty (care_vectors net care) then Some EmptyCare else None

abbrev pub undetermined_refusal : Parts → CareSet → Observe → Option Refusal
undetermined_refusal net care what =
    option_map (λ u. Undetermined u.1 u.0) (first_failing (is_undetermined net) (observed_gates net what) (care_vectors net care))

abbrev pub leaves_refusal : Parts → CareSet → Option Refusal
leaves_refusal net care = option_map (λ v. Leaves v (next_state net v)) (find (leaves net care) (care_vectors net care))

-- what refuses a netlist, if anything does
abbrev pub refusal : Parts → CareSet → Observe → Option Refusal
refusal net care what =
    first_there (initial_refusal net care ∷ empty_refusal net care ∷ undetermined_refusal net care what ∷ leaves_refusal net care ∷ [])

-- the gates that are unknown in the fixpoint at some vector that counts, whether they are observed or not
abbrev pub loose_gates : Parts → CareSet → List Sig
loose_gates net care = filter (λ s. list_any (is_undetermined net s) (care_vectors net care)) (gate_sigs net)

-- the signal is a gate's
pub record IsGate (net : Parts) (s : Sig) : Type 0 where
  pub behind : columns net ≤ s.0
  pub within : s.0 < count net

-- the refusal has values for the netlist's columns and latches, and names a gate
pub record IsAt (net : Parts) (v : List Bool) (s : Sig) : Type 0 where
  pub width : length v ≡ columns net
  pub gate : IsGate net s

pub record IsStepTo (net : Parts) (v q : List Bool) : Type 0 where
  pub width : length v ≡ columns net
  pub latches : length q ≡ length net.latches

abbrev pub IsRefusalOf : Parts → Refusal → Type 0
IsRefusalOf net (Initial q) = length q ≡ length net.latches
IsRefusalOf net EmptyCare = Unit {0}
IsRefusalOf net (Undetermined v s) = IsAt net v s
IsRefusalOf net (Leaves v q) = IsStepTo net v q

-- a permitted state that isn't in the invariant
pub record IsOutside (net : Parts) (care : CareSet) (q : List Bool) : Type 0 where
  pub permitted : IsInitialState net q
  pub outside : is_in_invariant care q ≡ false

-- a care vector on which the wire is unknown
pub record IsUnknownAt (net : Parts) (care : CareSet) (v : List Bool) (s : Sig) : Type 0 where
  pub counts : IsCareVector net care v
  pub unknown : wire (fix net (bits v)) s ≡ X

-- a care vector whose next state is this one, known and not in the invariant
pub record LeavesTo (net : Parts) (care : CareSet) (v q : List Bool) : Type 0 where
  pub counts : IsCareVector net care v
  pub is : next net (bits v) ≡ bits q
  pub outside : is_in_invariant care q ≡ false

-- what a refusal shows by itself. No vector shows that there is no care vector.
abbrev pub Proves : Parts → CareSet → Refusal → Type 0
Proves net care (Initial q) = IsOutside net care q
Proves net care EmptyCare = ⊥
Proves net care (Undetermined v s) = IsUnknownAt net care v s
Proves net care (Leaves v q) = LeavesTo net care v q
