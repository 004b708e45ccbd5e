-- A schedule that fits a netlist and a number of ticks, so that it can be played.
use Rattle.std.specs.Prelude.{◌≡◌, ℕ, ◌<◌, false, length, All}
use Rattle.netlist.specs.declared.parts.Parts.{Parts}
use Rattle.netlist.specs.Netlists.{count}
use Rattle.netlist.specs.Fixpoint.{IsInitialState}
use Rattle.delay_core.specs.declared.plan.PlannedEvent.{PlannedEvent}
use Rattle.delay_core.specs.declared.plan.RoundPlan.{RoundPlan}
use Rattle.delay_core.specs.declared.plan.Schedule.{Schedule}

-- the event is of one of so many gates
abbrev pub IsOfGates : ℕ → PlannedEvent → Type 0
IsOfGates gates planned = planned.event.gate < gates

abbrev pub AreOfGates : ℕ → RoundPlan → Type 0
AreOfGates gates round = All (IsOfGates gates) round.events

pub record FitsNetlist (net : Parts) (ticks : ℕ) (schedule : Schedule) : Type 0 where
  -- a value for each signal, latch and gate
  pub past : All (λ moment. length moment ≡ count net) schedule.past
  pub latches : length schedule.latches ≡ length net.latches
  pub gates : length schedule.gates ≡ length net.gates
  pub as_many : length schedule.ticks ≡ ticks
  pub events : All (All (AreOfGates (length net.gates))) schedule.ticks
  -- the inits permit what the latches start with, unless these are free
  pub start : schedule.free ≡ false → IsInitialState net schedule.latches
