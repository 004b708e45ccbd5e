-- A schedule on its netlist, with a vector of inputs for each tick.
use Rattle.std.specs.Prelude.{◌≡◌, ℕ, Bool, List, [], length, zip, slice_index_or, All}
use Rattle.netlist.specs.declared.parts.Parts.{Parts}
use Rattle.netlist.specs.Netlists.{count}
use Rattle.delay_core.specs.declared.plan.RoundPlan.{RoundPlan}
use Rattle.delay_core.specs.declared.plan.Schedule.{Schedule}
use Rattle.delay_core.specs.Plans.{PlannedTick}

pub record Scheduled : Type 0 where
  pub net : Parts
  pub vectors : List (List Bool)
  pub schedule : Schedule

-- the widths are the netlist's, and there are as many ticks as vectors
pub record IsScheduled (run : Scheduled) : Type 0 where
  pub past : All (λ (moment : List Bool). length moment ≡ count run.net) run.schedule.past
  pub latches : length run.schedule.latches ≡ length run.net.latches
  pub gates : length run.schedule.gates ≡ length run.net.gates
  pub inputs : All (λ (inputs : List Bool). length inputs ≡ length run.net.inputs) run.vectors
  pub ticks : length run.schedule.ticks ≡ length run.vectors

-- a tick's inputs and rounds
abbrev pub inputs_at : Scheduled → ℕ → List Bool
inputs_at run tick = slice_index_or run.vectors tick []

abbrev pub rounds_at : Scheduled → ℕ → List RoundPlan
rounds_at run tick = slice_index_or run.schedule.ticks tick []

abbrev pub planned : Scheduled → List PlannedTick
planned run = zip run.vectors run.schedule.ticks
