-- A recorded schedule, played whole: the first fault in the order of play, and how each tick ends.
use Rattle.std.specs.Prelude.{◌≡◌, ◌≢◌, ◌↔◌, ℕ, ◌+◌, ◌*◌, ◌≤◌, Bool, true, false, not, List, [], ◌∷◌, ◌++◌, length, map, zip, take, reverse, All, None, option_map}
use Rattle.std.specs.List.{list_all, range_with_len}
use Rattle.std.specs.Option.{option_or}
use Rattle.std.specs.declared.option.Option.{Option}
use Rattle.cyc_base.specs.declared.trit.Trit.{Trit}
use Rattle.cyc_base.specs.declared.trit.Trit.TheVariants.{Zero, One, X}
use Rattle.cyc_base.specs.Values.{bits}
use Rattle.netlist.specs.declared.parts.Parts.{Parts}
use Rattle.netlist.specs.Netlists.{gate_sig}
use Rattle.netlist.specs.Fixpoint.{wire, fix, fix_gates}
use Rattle.schedules.specs.Moments.{Moment, History, Round, bit_at, newest}
use Rattle.schedules.specs.Fairness.{IsFair}
use Rattle.schedules.specs.Runs.{Tick, Run, Played, gates_at, loaded_at, outputs_at, vector_of, play as ticks_from}
use Rattle.delay_core.specs.declared.fault.PlayFault.{PlayFault}
use Rattle.delay_core.specs.declared.fault.PlayFault.TheVariants as refused
use Rattle.delay_core.specs.declared.plan.PlannedEvent.{PlannedEvent}
use Rattle.delay_core.specs.declared.plan.RoundPlan.{RoundPlan}
use Rattle.delay_core.specs.declared.plan.Schedule.{Schedule}
use Rattle.delay_core.specs.declared.plan.TickEnd.{TickEnd}
use Rattle.delay_core.specs.Plays.{PlayState, event_fault, unfair_gate, after_event, after_round, starting, next_tick}

-- ---- the order of play

-- why an event is refused
abbrev pub planned_fault : PlayState → PlannedEvent → Option PlayFault
planned_fault play planned = option_map (λ fault. refused.Event planned.line fault) (event_fault play planned.event)

-- the events of a round, one after another: where they lead, and the first that is refused
abbrev pub after_planned : PlayState → List PlannedEvent → PlayState
after_planned play [] = play
after_planned play (planned ∷ later) = after_planned (after_event play planned.event) later

abbrev pub events_fault : PlayState → List PlannedEvent → Option PlayFault
events_fault play [] = None
events_fault play (planned ∷ later) =
    option_or (planned_fault play planned) (events_fault (after_event play planned.event) later)

-- a round: after its events each gate must have had one
abbrev pub after_plan : PlayState → RoundPlan → PlayState
after_plan play round = after_round (after_planned play round.events)

abbrev pub unfair_fault : PlayState → ℕ → Option PlayFault
unfair_fault play line = option_map (λ gate. refused.Unfair line gate) (unfair_gate play)

abbrev pub round_fault : PlayState → RoundPlan → Option PlayFault
round_fault play round =
    option_or (events_fault play round.events) (unfair_fault (after_planned play round.events) round.line)

-- the rounds of a tick
abbrev pub after_plans : PlayState → List RoundPlan → PlayState
after_plans play [] = play
after_plans play (round ∷ later) = after_plans (after_plan play round) later

abbrev pub rounds_fault : PlayState → List RoundPlan → Option PlayFault
rounds_fault play [] = None
rounds_fault play (round ∷ later) = option_or (round_fault play round) (rounds_fault (after_plan play round) later)

-- a tick to be played: its inputs and its rounds
abbrev pub PlannedTick : Type 0
PlannedTick = List Bool × List RoundPlan

-- ticks that open one after another
abbrev pub ticks_fault : PlayState → List PlannedTick → Option PlayFault
ticks_fault play [] = None
ticks_fault play (tick ∷ later) =
    let opened = next_tick play tick.0 in
    option_or (rounds_fault opened tick.1) (ticks_fault (after_plans opened tick.1) later)

-- the first tick of a schedule, as it opens with these inputs
abbrev pub first_opened : Parts → Schedule → List Bool → PlayState
first_opened net schedule inputs =
    starting net schedule.window (reverse schedule.past) (inputs ++ schedule.latches) schedule.gates

-- the first fault of a schedule, whose ticks these are
abbrev pub first_fault : Parts → Schedule → List PlannedTick → Option PlayFault
first_fault net schedule [] = None
first_fault net schedule (tick ∷ later) =
    let opened = first_opened net schedule tick.0 in
    option_or (rounds_fault opened tick.1) (ticks_fault (after_plans opened tick.1) later)

-- the first fault of a schedule over these vectors of inputs, one for each tick
abbrev pub schedule_fault : Parts → Schedule → List (List Bool) → Option PlayFault
schedule_fault net schedule vectors = first_fault net schedule (zip vectors schedule.ticks)

-- ---- the run that a schedule plays

-- the events of a planned round
abbrev pub round_of : RoundPlan → Round
round_of round = map (λ planned. planned.event) round.events

abbrev pub tick_of : PlannedTick → Tick
tick_of tick = record { inputs = tick.0; rounds = map round_of tick.1 }

abbrev pub run_of : Schedule → List (List Bool) → Run
run_of schedule vectors = record {
  window = schedule.window;
  past = reverse schedule.past;
  latches = schedule.latches;
  gates = schedule.gates;
  ticks = map tick_of (zip vectors schedule.ticks);
}

-- the tick's schedule is fair
abbrev pub IsPlayedFairly : Parts → ℕ → Played → Type 0
IsPlayedFairly net window tick = IsFair net window tick.opened tick.rounds

-- ---- how a tick ends

-- the inputs and the latches of a moment
abbrev pub given_at : Parts → Moment → List Bool
given_at net moment = take (length net.inputs + length net.latches) moment

-- a ternary value is known, and is this bit
abbrev pub agrees : Trit → Bool → Bool
agrees Zero b = not b
agrees One b = b
agrees X b = false

-- at this moment the gate has its value in the ternary fixpoint of the moment's inputs and latches
abbrev pub gate_agrees : Parts → Moment → ℕ → Bool
gate_agrees net moment n =
    agrees (wire (fix net (bits (given_at net moment))) (gate_sig net n)) (bit_at moment (gate_sig net n))

-- each gate has it
abbrev pub stands_at_fix : Parts → Moment → Bool
stands_at_fix net moment = list_all (gate_agrees net moment) (range_with_len 0 (length net.gates))

-- what is told of a tick of so many rounds, at its last moment
abbrev pub end_at : Parts → Moment → ℕ → TickEnd
end_at net last rounds = record { rounds = rounds; settled = stands_at_fix net last; outputs = outputs_at net last }

abbrev pub end_of : Parts → Played → TickEnd
end_of net tick = end_at net (newest tick.ended) (length tick.rounds)

-- the ticks that are played behind a history
abbrev pub rest_of : Parts → History → List Tick → List Played
rest_of net history ticks = ticks_from net history (loaded_at net (newest history)) (gates_at net (newest history)) ticks

-- a tick is told to be settled exactly where its gates stand at the fixpoint of its vector
abbrev pub SettledIsTold : Parts → Played → Type 0
SettledIsTold net tick =
    (end_of net tick).settled ≡ true ↔ bits (gates_at net (newest tick.ended)) ≡ fix_gates net (bits (vector_of tick))

-- So it is after window + 1 times as many rounds as there are gates, where the fixpoint leaves none unknown.
abbrev pub SettlesInTime : Parts → ℕ → Played → Type 0
SettlesInTime net window tick =
    (window + 1) * length net.gates ≤ length tick.rounds → All (λ value. value ≢ X) (fix_gates net (bits (vector_of tick))) →
    (end_of net tick).settled ≡ true
