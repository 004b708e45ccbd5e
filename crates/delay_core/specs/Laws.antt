-- The law of faults.
use Rattle.std.specs.Prelude.{◌≡◌, ◌↔◌, Bool, List, All, None}
use Rattle.netlist.specs.declared.parts.Parts.{Parts}
use Rattle.schedules.specs.Runs.{ticks_of}
use Rattle.delay_core.specs.declared.plan.Schedule.{Schedule}
use Rattle.delay_core.specs.Plans.{schedule_fault, run_of, IsPlayedFairly}

-- A recorded schedule has no fault exactly where each tick of the run that it plays is fair with its window.
abbrev pub FaultsAreUnfairness : Type 0
FaultsAreUnfairness = (net : Parts) (schedule : Schedule) (vectors : List (List Bool)) →
    (schedule_fault net schedule vectors ≡ None) ↔ All (IsPlayedFairly net schedule.window) (ticks_of net (run_of schedule vectors))
