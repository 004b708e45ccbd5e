-- What the lines so far say of a schedule, as a reader holds it: the ticks that are ended, and the one in progress.
use Rattle.std.specs.Prelude.{ℕ, Bool, true, false, List, [], ◌∷◌, ◌++◌, Some, None, option_map, option_to_list}
use Rattle.std.specs.declared.option.Option.{Option}
use Rattle.delay_core.specs.declared.plan.PlannedEvent.{PlannedEvent}
use Rattle.delay_core.specs.declared.plan.RoundPlan.{RoundPlan}
use Rattle.delay_core.specs.declared.plan.Schedule.{Schedule}
use Rattle.sched_text.specs.declared.draft.OpenTick as held_tick
use Rattle.sched_text.specs.declared.draft.OpenRound as held_round
use Rattle.sched_text.specs.declared.draft.Draft as held
use Rattle.sched_text.specs.declared.statement.ScheduleStatement.{ScheduleStatement}
use Rattle.sched_text.specs.declared.statement.ScheduleStatement.TheVariants.{Format, Window, Past, Latches, State, Gates, Tick, Round, Event}

-- A round whose events may go on is a round so far.

abbrev pub seen_round : held_round.OpenRound → RoundPlan
seen_round round = record { line = round.line; events = round.events }

abbrev pub new_round : ℕ → RoundPlan
new_round n = record { line = n; events = [] }

abbrev pub with_event : PlannedEvent → RoundPlan → RoundPlan
with_event planned round = record { line = round.line; events = round.events ++ planned ∷ [] }

-- A tick whose rounds may go on: the rounds that are ended, and the one in progress.

pub record OpenTick : Type 0 where
  pub rounds : List RoundPlan
  pub round : Option RoundPlan

abbrev pub seen_tick : held_tick.OpenTick → OpenTick
seen_tick tick = record { rounds = tick.rounds.items; round = option_map seen_round tick.round }

abbrev pub new_tick : OpenTick
new_tick = record { rounds = []; round = None }

abbrev pub ended_tick : OpenTick → List RoundPlan
ended_tick tick = tick.rounds ++ option_to_list tick.round

abbrev pub without_round : OpenTick → OpenTick
without_round tick = record { rounds = ended_tick tick; round = None }

abbrev pub begin_round : ℕ → OpenTick → OpenTick
begin_round n tick = record { rounds = ended_tick tick; round = Some (new_round n) }

abbrev pub add_event : PlannedEvent → OpenTick → OpenTick
add_event planned tick = record { rounds = tick.rounds; round = option_map (with_event planned) tick.round }

-- The whole so far.

pub record Draft : Type 0 where
  pub window : ℕ
  pub past : List (List Bool)
  pub free : Bool
  pub latches : List Bool
  pub gates : List Bool
  pub ticks : List (List RoundPlan)
  pub tick : Option OpenTick

abbrev pub seen : held.Draft → Draft
seen draft = record {
  window = draft.window;
  past = draft.past.items;
  free = draft.free;
  latches = draft.latches;
  gates = draft.gates;
  ticks = draft.ticks.items;
  tick = option_map seen_tick draft.tick;
}

abbrev pub new_draft : Draft
new_draft = record { window = 0; past = []; free = false; latches = []; gates = []; ticks = []; tick = None }

-- the ticks, where the one in progress ends
abbrev pub ended_ticks : Draft → List (List RoundPlan)
ended_ticks draft = draft.ticks ++ option_to_list (option_map ended_tick draft.tick)

abbrev pub without_tick : Draft → Draft
without_tick draft = record draft { ticks = ended_ticks draft; tick = None }

-- the schedule behind what the next line says
abbrev pub follow : Draft → ScheduleStatement → Draft
follow draft Format = draft
follow draft (Window w) = record draft { window = w }
follow draft (Past bits) = record draft { past = draft.past ++ bits ∷ [] }
follow draft (Latches bits) = record draft { latches = bits }
follow draft (State bits) = record draft { latches = bits; free = true }
follow draft (Gates bits) = record draft { gates = bits }
follow draft Tick = record draft { ticks = ended_ticks draft; tick = Some new_tick }
follow draft (Round n) = record draft { tick = option_map (begin_round n) draft.tick }
follow draft (Event planned) = record draft { tick = option_map (add_event planned) draft.tick }

-- the schedule, where nothing follows
abbrev pub ended : Draft → Schedule
ended draft = record {
  window = draft.window;
  past = draft.past;
  free = draft.free;
  latches = draft.latches;
  gates = draft.gates;
  ticks = ended_ticks draft;
}
