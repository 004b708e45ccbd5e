-- The changes of a run: at each tick's start those that its opening tells, by the numbers of the signals, and then each
-- event that changes its gate.
use Rattle.std.specs.Prelude.{Bool, List, [], ◌∷◌, ◌++◌, option_map}
use Rattle.std.specs.List.{zip, filter_map, cons_option, range_with_len}
use Rattle.std.specs.declared.option.Option.{Option}
use Rattle.netlist.specs.declared.parts.Parts.{Parts}
use Rattle.netlist.specs.Netlists.{count, signal}
use Rattle.delay_core.specs.declared.change.Change.{Change}
use Rattle.delay_core.specs.declared.plan.PlannedEvent.{PlannedEvent}
use Rattle.delay_core.specs.declared.plan.RoundPlan.{RoundPlan}
use Rattle.delay_core.specs.declared.plan.Schedule.{Schedule}
use Rattle.delay_core.specs.Plays.{PlayState, opening_change, change_by, after_event, next_tick}
use Rattle.delay_core.specs.Plans.{PlannedTick, after_plan, after_plans, first_opened}

-- what the opening of a tick tells
abbrev pub openings : PlayState → List Change
openings play = filter_map (λ n. opening_change play (signal n)) (range_with_len 0 (count play.net))

-- what events change, one after another
abbrev pub event_changes : PlayState → List PlannedEvent → List Change
event_changes play [] = []
event_changes play (planned ∷ later) =
    cons_option (change_by play planned.event) (event_changes (after_event play planned.event) later)

-- what the events of rounds change
abbrev pub round_changes : PlayState → List RoundPlan → List Change
round_changes play [] = []
round_changes play (round ∷ later) = event_changes play round.events ++ round_changes (after_plan play round) later

-- the changes of a tick that has opened
abbrev pub tick_changes : PlayState → List RoundPlan → List Change
tick_changes opened rounds = openings opened ++ round_changes opened rounds

-- those of ticks that open one after another
abbrev pub later_changes : PlayState → List PlannedTick → List Change
later_changes play [] = []
later_changes play (tick ∷ later) =
    let opened = next_tick play tick.0 in
    tick_changes opened tick.1 ++ later_changes (after_plans opened tick.1) later

abbrev pub run_changes : Parts → Schedule → List PlannedTick → List Change
run_changes net schedule [] = []
run_changes net schedule (tick ∷ later) =
    let opened = first_opened net schedule tick.0 in
    tick_changes opened tick.1 ++ later_changes (after_plans opened tick.1) later

-- the changes of the run that a schedule plays over these vectors of inputs, one for each tick
abbrev pub changes : Parts → Schedule → List (List Bool) → List Change
changes net schedule vectors = run_changes net schedule (zip vectors schedule.ticks)

-- ---- what is kept of them

-- after further changes a log has them behind those that it had; one that keeps none stays so
abbrev pub logged : Option (List Change) → List Change → Option (List Change)
logged log more = option_map (λ had. had ++ more) log
