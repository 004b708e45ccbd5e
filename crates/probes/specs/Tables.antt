-- Tables that are filled change by change.
use Rattle.std.specs.Prelude.{◌≡◌, ◌<◌, ◌≤◌, ◌+◌, ◌==◌, ◌&&◌, ℕ, Bool, nat_lt, max, List, length, filter, slice_index_or}
use Rattle.std.specs.List.{list_any, sum_by, range_with_len}
use Rattle.cyc_base.specs.declared.sig.Sig.{Sig}
use Rattle.netlist.specs.Netlists.{gate_sig}
use Rattle.netlist.specs.declared.parts.Parts.{Parts}
use Rattle.delay_core.specs.declared.change.Change.{Change}
use Rattle.probes.specs.Texts.{round_in, last_round, is_turn, glitches_in, all_gates}

-- A table of the last rounds of so many ticks, the first of which is tick 1.
pub record IsRoundsTable (net : Parts) (changes : List Change) (ticks : ℕ) (rounds : List ℕ) : Type 0 where
  pub size : length rounds ≡ ticks
  pub each : (i : ℕ) → i < ticks → slice_index_or rounds i 0 ≡ last_round net changes (i + 1)

-- A change is entered in such a table.
pub record NotesRound (net : Parts) (change : Change) (old new : List ℕ) : Type 0 where
  pub size : length new ≡ length old
  pub each : (i : ℕ) → i < length old → slice_index_or new i 0 ≡ max (slice_index_or old i 0) (round_in net (i + 1) change)

-- Signals changed in rounds of ticks: a signal's number and a tick for each.
abbrev pub has_turn : List (ℕ × ℕ) → Sig → ℕ → Bool
has_turn turns s tick = list_any (λ turn. s.0 == turn.0 && tick == turn.1) turns

-- how often a signal changed in a tick in rounds from 1 on
abbrev pub turns_in : List Change → Sig → ℕ → ℕ
turns_in changes s tick = length (filter (is_turn s tick) changes)

-- the glitches of a signal in so many ticks
abbrev pub glitches_upto : ℕ → List Change → Sig → ℕ
glitches_upto ticks changes s = sum_by (glitches_in changes s) (range_with_len 0 ticks)

-- A tally of the glitches of all gates in so many ticks.
pub record IsTally (net : Parts) (changes : List Change) (ticks : ℕ) (turns : List (ℕ × ℕ)) (counts : List ℕ) (total : ℕ) : Type 0 where
  pub seen : (s : Sig) (tick : ℕ) → has_turn turns s tick ≡ nat_lt 0 (turns_in changes s tick)
  pub size : length counts ≡ length net.gates
  pub each : (gate : ℕ) → gate < length net.gates → slice_index_or counts gate 0 ≡ glitches_upto ticks changes (gate_sig net gate)
  pub few : (gate : ℕ) → slice_index_or counts gate 0 ≤ length changes
  pub all : total ≡ sum_by (λ gate. glitches_upto ticks changes (gate_sig net gate)) (all_gates net)
  pub few_all : total ≤ length changes
