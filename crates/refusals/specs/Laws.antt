-- The laws of refusals.
use Rattle.std.specs.Prelude.{◌≡◌, ◌≢◌, ◌<◌, ◌≤◌, ◌↔◌, Bool, true, false, List, length, Some, None, option_map, All, Contains}
use Rattle.cyc_base.specs.declared.sig.Sig.{Sig}
use Rattle.cyc_base.specs.declared.trit.Trit.TheVariants.{X}
use Rattle.cyc_base.specs.Values.{bits}
use Rattle.netlist.specs.declared.parts.Parts.{Parts}
use Rattle.netlist.specs.Fixpoint.{fix_gates, IsInitialState}
use Rattle.netlist.specs.Netlists.{IsNetlist, columns}
use Rattle.care_sets.specs.Care.{CareSet, is_in_invariant, IsCareVector}
use Rattle.refusals.specs.declared.observe.Observe.{Observe}
use Rattle.refusals.specs.declared.observe.Observe.TheVariants as observe
use Rattle.refusals.specs.declared.refusal.Refusal.{Refusal}
use Rattle.refusals.specs.declared.refusal.Refusal.TheVariants.{Initial, EmptyCare, Undetermined, Leaves}
use Rattle.refusals.specs.Acceptance.{Accepts, observed, gate_sigs, AreDetermined}
use Rattle.refusals.specs.Refusals.{refusal, Proves, IsRefusalOf, is_undetermined, observed_gates, first_failing, leaves}
use Rattle.cyc_base.specs.Vectors.{vectors, AtMost}

-- a netlist is accepted exactly where nothing refuses it
abbrev pub AcceptedWithoutRefusal : Type 0
AcceptedWithoutRefusal = (net : Parts) (care : CareSet) (what : Observe) → IsNetlist net → (refusal net care what ≡ None) ↔ Accepts net care what

-- a refusal is one of the netlist, and its vector shows it: an empty care set alone has none
abbrev pub RefusalIsShown : Type 0
RefusalIsShown = (net : Parts) (care : CareSet) (what : Observe) (r : Refusal) → IsNetlist net → refusal net care what ≡ Some r →
    IsRefusalOf net r × (r ≢ EmptyCare → Proves net care r)

-- an undetermined gate is observed
abbrev pub UndeterminedIsObserved : Type 0
UndeterminedIsObserved = (net : Parts) (care : CareSet) (what : Observe) (v : List Bool) (s : Sig) → refusal net care what ≡ Some (Undetermined v s) →
    Contains (observed net what) s

-- Its vector is the least that shows such a refusal:

-- no permitted state before it is outside the invariant
abbrev pub InitialIsLeast : Type 0
InitialIsLeast = (net : Parts) (care : CareSet) (what : Observe) (q w : List Bool) → refusal net care what ≡ Some (Initial q) →
    IsInitialState net w → is_in_invariant care w ≡ false → AtMost q w

-- no care vector before it leaves the gate unknown
abbrev pub UndeterminedIsLeast : Type 0
UndeterminedIsLeast = (net : Parts) (care : CareSet) (what : Observe) (v w : List Bool) (s : Sig) → refusal net care what ≡ Some (Undetermined v s) →
    IsCareVector net care w → is_undetermined net s w ≡ true → AtMost v w

-- no care vector at all leaves an earlier observed gate unknown
abbrev pub EarlierGatesAreDetermined : Type 0
EarlierGatesAreDetermined = (net : Parts) (care : CareSet) (what : Observe) (v w : List Bool) (s t : Sig) → refusal net care what ≡ Some (Undetermined v s) →
    IsCareVector net care w → Contains (observed net what) t → columns net ≤ t.0 → t.0 < s.0 → is_undetermined net t w ≡ false

-- no care vector before it leads out of the invariant
abbrev pub LeavesIsLeast : Type 0
LeavesIsLeast = (net : Parts) (care : CareSet) (what : Observe) (v w q : List Bool) → refusal net care what ≡ Some (Leaves v q) →
    IsCareVector net care w → leaves net care w ≡ true → AtMost v w

-- Without care models a netlist is refused for its observed gates alone: for the first that some vector leaves
-- unknown, with its least vector.
abbrev pub WithoutCareGatesAlone : Type 0
WithoutCareGatesAlone = (net : Parts) (care : CareSet) (what : Observe) → care.assume ≡ None → care.invariant ≡ None →
    refusal net care what ≡ option_map (λ u. Undetermined u.1 u.0) (first_failing (is_undetermined net) (observed_gates net what) (vectors (columns net)))

-- Where all is observed, the observed gates are the gates,
abbrev pub AllObservesGates : Type 0
AllObservesGates = (net : Parts) → observed_gates net observe.All ≡ gate_sigs net

-- and acceptance asks that no gate is unknown.
abbrev pub AllDeterminesGates : Type 0
AllDeterminesGates = (net : Parts) (v : List Bool) → length v ≡ columns net →
    AreDetermined net v (observed net observe.All) ↔ All (λ value. value ≢ X) (fix_gates net (bits v))

-- What is accepted with all observed is accepted with less.
abbrev pub AllIsMore : Type 0
AllIsMore = (net : Parts) (care : CareSet) (what : Observe) → IsNetlist net → Accepts net care observe.All → Accepts net care what
