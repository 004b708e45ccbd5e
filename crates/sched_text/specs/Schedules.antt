-- The schedule that lines are: their head, and the ticks behind it.
use Rattle.std.specs.Prelude.{ℕ, Bool, true, false, List, [], ◌∷◌, map, Some, None, unwrap_or}
use Rattle.std.specs.List.{list_any, filter_map}
use Rattle.std.specs.Option.{option_or}
use Rattle.std.specs.declared.option.Option.{Option}
use Rattle.std.specs.declared.result.Result.{Result}
use Rattle.netlist.specs.declared.parts.Parts.{Parts}
use Rattle.delay_core.specs.declared.plan.PlannedEvent.{PlannedEvent}
use Rattle.delay_core.specs.declared.plan.RoundPlan.{RoundPlan}
use Rattle.delay_core.specs.declared.plan.Schedule.{Schedule}
use Rattle.blif_text.specs.Texts.{Line, lines, end_number}
use Rattle.sched_text.specs.declared.fault.SchedFault.{SchedFault}
use Rattle.sched_text.specs.declared.statement.ScheduleStatement.{ScheduleStatement}
use Rattle.sched_text.specs.declared.statement.ScheduleStatement.TheVariants.{Window, Past, Latches, State, Gates, Tick, Round, Event}
use Rattle.sched_text.specs.Faults.{unless, of_lines}
use Rattle.sched_text.specs.LineFaults.{first_fault}
use Rattle.sched_text.specs.Statements.{statement}

-- The head. Of each line but `past` there is one at most where there is no fault.

abbrev pub last_there : {X : Type 0} → (ScheduleStatement → Option X) → List ScheduleStatement → Option X
last_there told [] = None
last_there told (said ∷ rest) = option_or (last_there told rest) (told said)

abbrev pub window_told : ScheduleStatement → Option ℕ
window_told (Window w) = Some w
window_told other = None

abbrev pub past_told : ScheduleStatement → Option (List Bool)
past_told (Past bits) = Some bits
past_told other = None

-- what the latches start with, permitted or free
abbrev pub start_told : ScheduleStatement → Option (List Bool)
start_told (Latches bits) = Some bits
start_told (State bits) = Some bits
start_told other = None

abbrev pub gates_told : ScheduleStatement → Option (List Bool)
gates_told (Gates bits) = Some bits
gates_told other = None

abbrev pub is_state : ScheduleStatement → Bool
is_state (State bits) = true
is_state other = false

-- The ticks. A tick has the rounds up to the next tick, and a round the events up to the next round or tick.

abbrev pub events_ahead : List ScheduleStatement → List PlannedEvent
events_ahead [] = []
events_ahead (Tick ∷ rest) = []
events_ahead (Round n ∷ rest) = []
events_ahead (Event planned ∷ rest) = planned ∷ events_ahead rest
events_ahead (other ∷ rest) = events_ahead rest

abbrev pub rounds_ahead : List ScheduleStatement → List RoundPlan
rounds_ahead [] = []
rounds_ahead (Tick ∷ rest) = []
rounds_ahead (Round n ∷ rest) = record { line = n; events = events_ahead rest } ∷ rounds_ahead rest
rounds_ahead (other ∷ rest) = rounds_ahead rest

abbrev pub ticks_ahead : List ScheduleStatement → List (List RoundPlan)
ticks_ahead [] = []
ticks_ahead (Tick ∷ rest) = rounds_ahead rest ∷ ticks_ahead rest
ticks_ahead (other ∷ rest) = ticks_ahead rest

-- The schedule. Without a window no pin reads older rounds.
abbrev pub schedule_of : List ScheduleStatement → Schedule
schedule_of said = record {
  window = unwrap_or (last_there window_told said) 0;
  past = filter_map past_told said;
  free = list_any is_state said;
  latches = unwrap_or (last_there start_told said) [];
  gates = unwrap_or (last_there gates_told said) [];
  ticks = ticks_ahead said;
}

-- the first line with a fault decides, for a text with this end line; without one there is what the lines say
abbrev pub schedule : Parts → ℕ → ℕ → List Line → Result Schedule SchedFault
schedule net ticks end found = unless (first_fault net ticks end [] found) (schedule_of (map (statement net) found))

abbrev pub schedule_read : List ℕ → Parts → ℕ → Result Schedule SchedFault
schedule_read text net ticks = of_lines (schedule net ticks (end_number text)) (lines text false)
