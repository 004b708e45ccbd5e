-- What it means that the text of a schedule reads back.
use Rattle.std.specs.Prelude.{◌≡◌, length, map, Ok}
use Rattle.netlist.specs.declared.parts.Parts.{Parts}
use Rattle.netlist.specs.Netlists.{IsNetlist}
use Rattle.delay_core.specs.declared.plan.PlannedEvent.{PlannedEvent}
use Rattle.delay_core.specs.declared.plan.RoundPlan.{RoundPlan}
use Rattle.delay_core.specs.declared.plan.Schedule.{Schedule}
use Rattle.sched_text.specs.Fitting.{FitsNetlist}
use Rattle.sched_text.specs.Putting.{IsSmall, TicksAreSmall}
use Rattle.sched_text.specs.Schedules.{schedule_read}
use Rattle.sched_text.specs.Written.{written}

-- a schedule with 0 as the number of each line
abbrev pub event_unnumbered : PlannedEvent → PlannedEvent
event_unnumbered planned = record { line = 0; event = planned.event }

abbrev pub round_unnumbered : RoundPlan → RoundPlan
round_unnumbered round = record { line = 0; events = map event_unnumbered round.events }

abbrev pub unnumbered : Schedule → Schedule
unnumbered schedule = record schedule { ticks = map (map round_unnumbered) schedule.ticks }

-- the text is read, for as many ticks, as a schedule that is equal but for the numbers of its lines
pub record ReadsBack (net : Parts) (schedule : Schedule) : Type 0 where
  pub found : Schedule
  pub read : schedule_read (written net schedule) net (length schedule.ticks) ≡ Ok found
  pub same : unnumbered found ≡ unnumbered schedule

-- the window and the ages are numbers of 32 bits
pub record HasSmallNumbers (schedule : Schedule) : Type 0 where
  pub window : IsSmall schedule.window
  pub ages : TicksAreSmall schedule.ticks

-- A schedule that fits a netlist, with start values that are permitted or free, reads back.
abbrev pub WrittenReadsBack : Type 0
WrittenReadsBack =
    (net : Parts) (schedule : Schedule) → IsNetlist net → FitsNetlist net (length schedule.ticks) schedule → HasSmallNumbers schedule →
    ReadsBack net schedule
