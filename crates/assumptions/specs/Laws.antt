-- The laws of weakest assumptions.
use Rattle.std.specs.Prelude.{◌≡◌, ◌↔◌, Bool, true, List, length}
use Rattle.netlist.specs.Netlists.{columns}
use Rattle.netlist.specs.declared.parts.Parts.{Parts}
use Rattle.care_sets.specs.Care.{CareSet, state_of, is_allowed, is_in_invariant}
use Rattle.refusals.specs.Acceptance.{AreDetermined, observed}
use Rattle.refusals.specs.declared.observe.Observe.{Observe}
use Rattle.care_rows.specs.declared.rows.Row.{Row}
use Rattle.assumptions.specs.Assumptions.{IsStrengthened, IsWeakest}

-- Within the invariant a weakest assumption lets a vector through just where the old one does and each observed wire is
-- determined at it.
abbrev pub WeakestIsExact : Type 0
WeakestIsExact = (net : Parts) (care : CareSet) (what : Observe) (stronger : CareSet) (v : List Bool) → IsWeakest net care what stronger → length v ≡ columns net →
    is_in_invariant care (state_of net v) ≡ true → (is_allowed stronger v ≡ true) ↔ ((is_allowed care v ≡ true) × AreDetermined net v (observed net what))

-- However few or many rows are excluded, what they exclude leaves an observed wire undetermined.
abbrev pub ExcludedAreOpen : Type 0
ExcludedAreOpen = (net : Parts) (care : CareSet) (what : Observe) (rows : List Row) (stronger : CareSet) (v : List Bool) → IsStrengthened net care what rows stronger →
    length v ≡ columns net → is_allowed care v ≡ true → AreDetermined net v (observed net what) → is_allowed stronger v ≡ true
