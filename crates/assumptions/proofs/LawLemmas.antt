-- The laws of weakest assumptions.
use Rattle.std.proofs.Common.{◌≡◌, Bool, List, length, ◌∙◌}
use Rattle.netlist.specs.Netlists.{columns}
use Rattle.netlist.specs.declared.parts.Parts.{Parts}
use Rattle.care_sets.specs.Care.{CareSet, state_of}
use Rattle.refusals.specs.Acceptance.{AreDetermined, observed}
use Rattle.refusals.specs.declared.observe.Observe.{Observe}
use Rattle.care_rows.specs.Rows.{IsInNone}
use Rattle.care_rows.specs.declared.rows.Row.{Row}
use Rattle.assumptions.specs.Assumptions.{AreFound}
use Rattle.assumptions.specs.Laws.{WeakestIsExact, ExcludedAreOpen}
use Rattle.assumptions.proofs.FoundLemmas.{same_states}

-- a vector at which the observed wires are determined is in none of the rows
determined_beyond : (net : Parts) (care : CareSet) (what : Observe) (rows : List Row) (v : List Bool) → AreFound net care what rows → length v ≡ columns net → AreDetermined net v (observed net what) → IsInNone net v rows
determined_beyond net care what rows v found width determined k d l inside = (found.each k d l).opens v width inside determined

pub excluded_are_open : ExcludedAreOpen
excluded_are_open net care what rows stronger v h width allowed determined = (h.lets v width).1 (allowed, determined_beyond net care what rows v h.found width determined)

pub weakest_is_exact : WeakestIsExact
weakest_is_exact net care what stronger v h width state =
    let is = h.strengthened in (
      λ allowed. (((is.lets v width).0 allowed).0, h.accepted.determined v (record { width = width; state = same_states stronger care (state_of net v) is.invariant ∙ state; allowed = allowed })),
      λ both. excluded_are_open net care what h.rows stronger v is width both.0 both.1,
    )
