-- Reading on: where a reader stands among the lines of a schedule, and what it has until then.
use Rattle.std.specs.Prelude.{◌≡◌, ◌≤◌, ◌<◌, ◌+◌, ◌==◌, ◌&&◌, ◌||◌, ℕ, zero, suc, List, [], ◌∷◌, ◌++◌, length, drop, map, Some, None, Err, unwrap_or}
use Rattle.std.specs.List.{list_any, filter_map}
use Rattle.std.specs.declared.option.Option.{Option}
use Rattle.std.specs.declared.result.Result.{Result}
use Rattle.netlist.specs.declared.parts.Parts.{Parts}
use Rattle.delay_core.specs.declared.plan.RoundPlan.{RoundPlan}
use Rattle.delay_core.specs.declared.plan.Schedule.{Schedule}
use Rattle.blif_text.specs.Texts.{Line}
use Rattle.blif_text.specs.Lines.{line_at}
use Rattle.sched_text.specs.declared.fault.SchedFault.{SchedFault}
use Rattle.sched_text.specs.declared.place.SchedulePlace.{SchedulePlace}
use Rattle.sched_text.specs.declared.statement.ScheduleStatement.{ScheduleStatement}
use Rattle.sched_text.specs.Faults.{unless}
use Rattle.sched_text.specs.Kinds.{kind, lacks_lines}
use Rattle.sched_text.specs.LineFaults.{nearest, ticks_begun, is_cut_off, first_fault}
use Rattle.sched_text.specs.Statements.{statement}
use Rattle.sched_text.specs.Schedules.{last_there, window_told, past_told, start_told, gates_told, is_state, events_ahead, rounds_ahead, ticks_ahead, schedule}
use Rattle.sched_text.specs.Running.{OpenTick, Draft}

-- ---- the schedule, of what is said so far and of what follows

abbrev pub rounds_from : Option RoundPlan → List ScheduleStatement → List RoundPlan
rounds_from None said = rounds_ahead said
rounds_from (Some round) said = record { line = round.line; events = round.events ++ events_ahead said } ∷ rounds_ahead said

abbrev pub ticks_from : Option OpenTick → List ScheduleStatement → List (List RoundPlan)
ticks_from None said = ticks_ahead said
ticks_from (Some tick) said = (tick.rounds ++ rounds_from tick.round said) ∷ ticks_ahead said

abbrev pub whole : Draft → List ScheduleStatement → Schedule
whole draft said = record {
  window = unwrap_or (last_there window_told said) draft.window;
  past = draft.past ++ filter_map past_told said;
  free = draft.free || list_any is_state said;
  latches = unwrap_or (last_there start_told said) draft.latches;
  gates = unwrap_or (last_there gates_told said) draft.gates;
  ticks = draft.ticks ++ ticks_from draft.tick said;
}

-- ---- reading on

-- the lines before a place, the nearest first
abbrev pub before : List Line → ℕ → List Line
before lines zero = []
before lines (suc i) = line_at lines i ∷ before lines i

abbrev pub answer : Parts → ℕ → ℕ → Draft → List Line → List Line → Result Schedule SchedFault
answer net ticks end draft earlier rest = unless (first_fault net ticks end earlier rest) (whole draft (map (statement net) rest))

-- the lines up to a place are read: what the rest adds to them is what all lines are
pub record ReadsAt (net : Parts) (ticks end : ℕ) (lines : List Line) (place : SchedulePlace) (draft : Draft) (i : ℕ) : Type 0 where
  pub nearest : place.before ≡ nearest (before lines i)
  pub begun : place.begun ≡ ticks_begun (before lines i)
  pub few : place.begun ≤ i
  pub answers : answer net ticks end draft (before lines i) (drop i lines) ≡ schedule net ticks end lines

-- A piece is the lines from a place on. Of all lines the one with the end number is the last.
pub record IsPieceOf (end : ℕ) (lines : List Line) (base : ℕ) (piece : List Line) : Type 0 where
  pub within : base + length piece ≤ length lines
  pub same : (i : ℕ) → i < length piece → line_at lines (base + i) ≡ line_at piece i
  pub ends : (i : ℕ) → i < length lines → is_cut_off end (line_at lines i) (drop (i + 1) lines) ≡ (((line_at lines i).number == end) && lacks_lines (Some (kind (line_at lines i))))

-- Whatever lines a piece is of: a reader at its begin is then at its end.
abbrev pub ReadsPiece : Parts → ℕ → ℕ → List Line → SchedulePlace → Draft → SchedulePlace → Draft → ℕ → Type 0
ReadsPiece net ticks end piece place draft next after count =
    (lines : List Line) (base : ℕ) → IsPieceOf end lines base piece →
    ReadsAt net ticks end lines place draft base → ReadsAt net ticks end lines next after (base + count)

-- And a fault in it is that of all lines.
abbrev pub FailsPiece : Parts → ℕ → ℕ → List Line → SchedulePlace → Draft → SchedFault → Type 0
FailsPiece net ticks end piece place draft fault =
    (lines : List Line) (base : ℕ) → IsPieceOf end lines base piece →
    ReadsAt net ticks end lines place draft base → schedule net ticks end lines ≡ Err fault
