-- Whether a next state leaves the invariant.
use Rattle.std.specs.Prelude.{◌≡◌, None, Some}
use Rattle.netlist.specs.declared.parts.Parts.{Parts}
use Rattle.care_sets.specs.Care.{CareSet}
use Rattle.refusals.specs.Refusals.{leaves_refusal}
use Rattle.verdict.specs.declared.invariance.Invariance.{Invariance}
use Rattle.verdict.specs.declared.invariance.Invariance.TheVariants as invariances

-- whether a care vector's next state leaves the invariant, and the refusal of the least such vector; or nothing is said
abbrev pub IsInvariance : Parts → CareSet → Invariance → Type 0
IsInvariance net care invariances.Stays = leaves_refusal net care ≡ None
IsInvariance net care (invariances.Leaves refusal) = leaves_refusal net care ≡ Some refusal
IsInvariance net care invariances.Undecided = Unit {0}
