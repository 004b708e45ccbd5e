-- What a dump shows: line by line, the time that is told last, and the value that a signal is given last.
use Rattle.std.specs.Prelude.{◌≡◌, ℕ, ◌+◌, ◌^◌, ◌<◌, ◌≤◌, ◌==◌, ◌&&◌, Bool, true, false, not, nat_lt, if◌then◌else◌, List, [], ◌∷◌, ◌++◌, length, All, Some, None}
use Rattle.std.specs.declared.option.Option.{Option}
use Rattle.std.specs.List.{fold, zip}
use Rattle.std.specs.Str.{bytes_eq}
use Rattle.std.specs.Str.Parse.{digits_value}
use Rattle.cyc_base.specs.declared.sig.Sig.{Sig}
use Rattle.netlist.specs.declared.parts.Parts.{Parts}
use Rattle.netlist.specs.Netlists.{IsNetlist, count}
use Rattle.schedules.specs.Moments.{bit_at}
use Rattle.delay_core.specs.declared.plan.Schedule.{Schedule}
use Rattle.delay_core.specs.Changes.{changes}
use Rattle.probes.specs.Values.{history_of, moment_of_run}
use Rattle.probes.specs.Codes.{code}
use Rattle.probes.specs.Dumps.{vcd_text}

-- the lines of a text, of which the first has begun with these bytes; each ends with LF
abbrev pub lines_from : List ℕ → List ℕ → List (List ℕ)
lines_from line [] = []
lines_from line (b ∷ bytes) = if b == 10 then line ∷ lines_from [] bytes else lines_from (line ++ b ∷ []) bytes

-- the time that was told last, and the value that a signal was given last
pub record Shown : Type 0 where
  pub time : ℕ
  pub value : Option Bool

abbrev pub nothing_shown : Shown
nothing_shown = record { time = 0; value = None }

-- a value line of this signal counts at times up to the moment
abbrev pub read_value : Sig → ℕ → Bool → List ℕ → Shown → Shown
read_value s at value name shown =
    if bytes_eq name (code s.0) && not (nat_lt at shown.time) then record { time = shown.time; value = Some value } else shown

-- `#` and a time, or a bit and a code; each other line tells nothing
abbrev pub read_line : Sig → ℕ → Shown → List ℕ → Shown
read_line s at shown [] = shown
read_line s at shown (mark ∷ rest) =
    if mark == 35 then record { time = digits_value 10 rest; value = shown.value }
    else (if mark == 48 then read_value s at false rest shown
    else (if mark == 49 then read_value s at true rest shown else shown))

-- the last value line of a signal at or before a moment
abbrev pub shown_value : List ℕ → Sig → ℕ → Option Bool
shown_value text s at = (fold (read_line s at) nothing_shown (lines_from [] text)).value

-- In the dump of a run with fewer than 2 ^ 64 moments the last value line of a signal at or before a moment is its value
-- at that moment.
abbrev pub DumpsShowValues : Type 0
DumpsShowValues = (net : Parts) (schedule : Schedule) (vectors : List (List Bool)) → IsNetlist net →
    length schedule.latches ≡ length net.latches → length schedule.gates ≡ length net.gates →
    All (λ inputs. length inputs ≡ length net.inputs) vectors → length schedule.ticks ≡ length vectors → 1 ≤ length vectors →
    length (history_of net schedule (zip vectors schedule.ticks)) < length schedule.past + 2 ^ 64 →
    (s : Sig) (at : ℕ) → s.0 < count net →
    shown_value (vcd_text (changes net schedule vectors) net) s at ≡ Some (bit_at (moment_of_run net schedule vectors at) s)
