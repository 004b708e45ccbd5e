-- Changes tell the value of each signal at each moment of a run: it is the last one that the signal was given until then.
use Rattle.std.specs.Prelude.{◌≡◌, ℕ, suc, ◌+◌, ◌<◌, ◌≤◌, ◌&&◌, Bool, not, nat_lt, if◌then◌else◌, List, [], ◌∷◌, length, reverse, All, Some, None}
use Rattle.std.specs.declared.option.Option.{Option}
use Rattle.std.specs.List.{fold, zip}
use Rattle.cyc_base.specs.declared.sig.Sig.{Sig}
use Rattle.netlist.specs.declared.parts.Parts.{Parts}
use Rattle.netlist.specs.Netlists.{count, sig_eq}
use Rattle.schedules.specs.Moments.{History, Moment, bit_at}
use Rattle.delay_core.specs.declared.change.Change.{Change}
use Rattle.delay_core.specs.declared.plan.Schedule.{Schedule}
use Rattle.delay_core.specs.Plays.{PlayState, next_tick, moment_of_number}
use Rattle.delay_core.specs.Plans.{PlannedTick, after_plans, first_opened}
use Rattle.delay_core.specs.Changes.{changes}

-- a change is one of this signal, and not later than this moment
abbrev pub counts_for : Sig → ℕ → Change → Bool
counts_for s at change = sig_eq change.sig s && not (nat_lt at change.at)

abbrev pub value_after : Sig → ℕ → Option Bool → Change → Option Bool
value_after s at before change = if counts_for s at change then Some change.value else before

-- the value that changes give a signal last, up to a moment
abbrev pub last_value : List Change → Sig → ℕ → Option Bool
last_value changes s at = fold (value_after s at) None changes

-- where a play stands after ticks that open one after another
abbrev pub after_ticks : PlayState → List PlannedTick → PlayState
after_ticks play [] = play
after_ticks play (tick ∷ later) = after_ticks (after_plans (next_tick play tick.0) tick.1) later

-- the history of a run as it ends
abbrev pub history_of : Parts → Schedule → List PlannedTick → History
history_of net schedule [] = reverse schedule.past
history_of net schedule (tick ∷ later) = (after_ticks (after_plans (first_opened net schedule tick.0) tick.1) later).history

-- the moments of a run: moment 0 is the opening of its first tick
abbrev pub moment_of_run : Parts → Schedule → List (List Bool) → ℕ → Moment
moment_of_run net schedule vectors at =
    moment_of_number (history_of net schedule (zip vectors schedule.ticks)) (suc (length schedule.past) + at)

-- The changes of a run tell the value of each signal at each moment.
abbrev pub ChangesTellValues : Type 0
ChangesTellValues = (net : Parts) (schedule : Schedule) (vectors : List (List Bool)) →
    length schedule.latches ≡ length net.latches → length schedule.gates ≡ length net.gates →
    All (λ inputs. length inputs ≡ length net.inputs) vectors → length schedule.ticks ≡ length vectors → 1 ≤ length vectors →
    (s : Sig) (at : ℕ) → s.0 < count net →
    last_value (changes net schedule vectors) s at ≡ Some (bit_at (moment_of_run net schedule vectors at) s)
