-- A play: where it stands, why it refuses an event, and what each call makes of it.
use Rattle.std.specs.Prelude.{◌≡◌, ◌+◌, ◌-◌, ◌<◌, ◌≤◌, ◌==◌, ◌&&◌, ◌||◌, ℕ, zero, suc, nat_lt, Bool, true, false, not, if◌then◌else◌, List, [], ◌∷◌, ◌++◌, length, filter, replicate, slice_set, slice_index_or, position, option_map, Some, None}
use Rattle.std.specs.List.Sorted.{IsNonDecreasing}
use Rattle.std.specs.declared.option.Option.{Option}
use Rattle.cyc_base.specs.declared.sig.Sig.{Sig}
use Rattle.netlist.specs.declared.parts.Parts.{Parts}
use Rattle.netlist.specs.Netlists.{count, gate_at, gate_sig}
use Rattle.netlist.specs.Fixpoint.{wires}
use Rattle.schedules.specs.declared.event.Event.{Event}
use Rattle.schedules.specs.Moments.{History, Moment, bit_at, moment_at, newest, event_value}
use Rattle.schedules.specs.Fairness.{earliest}
use Rattle.schedules.specs.Runs.{gates_at, loaded_at}
use Rattle.delay_core.specs.declared.change.Change.{Change}
use Rattle.delay_core.specs.declared.fault.EventFault.{EventFault}
use Rattle.delay_core.specs.declared.fault.EventFault.TheVariants.{NoGate, AgeCount, TooOld}

-- Where a play stands. Moments are numbered from 1, the oldest of the history first.
pub record PlayState : Type 0 where
  pub net : Parts
  pub window : ℕ
  -- how many moments came before the first tick
  pub past : ℕ
  pub history : History
  -- the number of the tick, from 1, and that of its opening moment
  pub tick : ℕ
  pub opening : ℕ
  -- the numbers of the moments at which the tick's rounds began, the newest first, with that in progress
  pub starts : List ℕ
  -- which gates had an event in the round in progress
  pub done : List Bool

-- What contracts see of a play: where it stands, and for how many events it surely has memory.
pub record SeenPlay : Type 0 where
  pub state : PlayState
  pub spare : ℕ

-- ---- an event

-- the earliest moment that the round in progress may read
abbrev pub first_allowed : PlayState → ℕ
first_allowed play = earliest play.window play.starts

-- the moment of this age isn't there, or isn't allowed
abbrev pub is_too_old : PlayState → ℕ → Bool
is_too_old play age = nat_lt (length play.history) (first_allowed play + age)

-- the first reason for which an event is refused
abbrev pub event_fault : PlayState → Event → Option EventFault
event_fault play event =
    if not (nat_lt event.gate (length play.net.gates)) then Some NoGate
    else (if not (length event.ages == length (gate_at play.net event.gate).pins) then Some AgeCount
    else option_map TooOld (position (is_too_old play) event.ages))

-- after a gate was computed there is a moment in which it has this value, and it had an event
abbrev pub after_value : PlayState → ℕ → Bool → PlayState
after_value play gate value = record play {
  history = slice_set (newest play.history) (gate_sig play.net gate).0 value ∷ play.history;
  done = slice_set play.done gate true;
}

-- after an event there is its moment
abbrev pub after_event : PlayState → Event → PlayState
after_event play event = after_value play event.gate (event_value play.net play.history event)

-- the place of the moment of this number in the run: 0 at the first tick's start
abbrev pub place : PlayState → ℕ → ℕ
place play number = number - suc play.past

abbrev pub differ : Bool → Bool → Bool
differ true b = not b
differ false b = b

-- the change that a gate makes by taking this value at the next moment: none where it has it already
abbrev pub change_to : PlayState → ℕ → Bool → Option Change
change_to play gate value =
    if differ (bit_at (newest play.history) (gate_sig play.net gate)) value
    then Some (record {
      at = place play (suc (length play.history));
      tick = play.tick;
      round = length play.starts;
      sig = gate_sig play.net gate;
      value = value;
    })
    else None

-- the change that an event makes
abbrev pub change_by : PlayState → Event → Option Change
change_by play event = change_to play event.gate (event_value play.net play.history event)

-- ---- rounds

-- how many events the round in progress had
abbrev pub events_of_round : PlayState → ℕ
events_of_round play = length play.history - earliest 0 play.starts

-- the first gate that had none
abbrev pub unfair_gate : PlayState → Option ℕ
unfair_gate play = position (λ had. not had) play.done

abbrev pub no_events : Parts → List Bool
no_events net = replicate (length net.gates) false

-- the greatest number of a round that a play tells
abbrev pub most_rounds : ℕ
most_rounds = 18446744073709551615

-- after a round the next one begins, at the newest moment
abbrev pub after_round : PlayState → PlayState
after_round play = record play {
  starts = length play.history ∷ play.starts;
  done = no_events play.net;
}

-- ---- ticks

-- a play as it starts, after this past, with these inputs and latches and these gates
abbrev pub starting : Parts → ℕ → History → List Bool → List Bool → PlayState
starting net window past v gates = record {
  net = net;
  window = window;
  past = length past;
  history = wires v gates ∷ past;
  tick = 1;
  opening = suc (length past);
  starts = suc (length past) ∷ [];
  done = no_events net;
}

-- the next tick opens with these inputs, what the latches load, and the gates as they stood
abbrev pub next_tick : PlayState → List Bool → PlayState
next_tick play inputs =
    let last = newest play.history in
    let opening = suc (length play.history) in
    record play {
      history = wires (inputs ++ loaded_at play.net last) (gates_at play.net last) ∷ play.history;
      tick = suc play.tick;
      opening = opening;
      starts = opening ∷ [];
    }

-- the moment of this number
abbrev pub moment_of_number : History → ℕ → Moment
moment_of_number history number = moment_at history (length history - number)

-- an input or a latch
abbrev pub is_given : Parts → Sig → Bool
is_given net s = nat_lt s.0 (length net.inputs + length net.latches)

-- What a tick's opening tells of a signal: in the first tick its starting value, and in a later one that of an input or
-- a latch that differs from the tick before.
abbrev pub opening_change : PlayState → Sig → Option Change
opening_change play s =
    let value = bit_at (moment_of_number play.history play.opening) s in
    let before = bit_at (moment_of_number play.history (play.opening - 1)) s in
    if play.tick == 1 || (is_given play.net s && differ before value)
    then Some (record { at = place play play.opening; tick = play.tick; round = 0; sig = s; value = value })
    else None

-- ---- how rounds are kept: the round of each event of the tick, counted from 1

-- how many events come in rounds before this one
abbrev pub events_before : ℕ → List ℕ → ℕ
events_before round marks = length (filter (λ mark. nat_lt mark round) marks)

-- where the rounds up to this one begin, the newest first, if the tick's opening moment has this number
abbrev pub starts_of : ℕ → List ℕ → ℕ → List ℕ
starts_of opening marks zero = []
starts_of opening marks (suc round) = (opening + events_before (suc round) marks) ∷ starts_of opening marks round

-- the parts of a play fit
pub record IsPlay (net : Parts) (history : History) (before now : ℕ) (opening : ℕ) (marks : List ℕ) (round : ℕ) (gates : List Bool) : Type 0 where
  pub width : length (newest history) ≡ count net
  pub done : length gates ≡ length net.gates
  pub tick : 1 ≤ now
  -- each tick opened with a moment
  pub ticks : before + now ≤ opening
  pub moments : opening + length marks ≡ length history
  pub begun : 1 ≤ round
  pub behind : (i : ℕ) → i < length marks → slice_index_or marks i 0 ≤ round
  pub rising : IsNonDecreasing marks
  -- each round but that in progress has an event, where there is a gate
  pub rounds : 1 ≤ length net.gates → round ≤ length marks + 1
  pub had : (n : ℕ) → slice_index_or gates n false ≡ true → round ≤ length marks
  pub none : length net.gates ≡ 0 → marks ≡ []
