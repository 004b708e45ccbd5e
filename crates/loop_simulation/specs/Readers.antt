-- Which gates of a loop read which.
use Rattle.std.specs.Prelude.{◌≡◌, ◌⊎◌, ◌==◌, ◌&&◌, ℕ, nat_le, if◌then◌else◌, List, length, Some, None, Contains}
use Rattle.std.specs.declared.option.Option.{Option}
use Rattle.cyc_base.specs.declared.sig.Sig.{Sig}
use Rattle.netlist.specs.Netlists.{gate_at, gate_sig}
use Rattle.loops.specs.Blocks.{home_of}
use Rattle.loops.specs.Rows.{InRow}
use Rattle.loops.specs.Sweeps.{first_gate, gate_of}
use Rattle.loop_simulation.specs.LoopsAt.{LoopAt, gates_in}

-- the gate of the loop that drives a signal
abbrev pub source_of : LoopAt → Sig → Option ℕ
source_of l s =
    if nat_le (first_gate l.net) s.0 && home_of l.blocks (gate_of l.net s) == l.number
    then Some (gate_of l.net s)
    else None

-- A gate is added to the rows of those gates of the loop that are among these pins.
pub record HasGainedReader (l : LoopAt) (gate : ℕ) (pins : List Sig) (old new : List (List ℕ)) : Type 0 where
  pub size : length new ≡ length old
  pub keeps : (g n : ℕ) → InRow old g n → InRow new g n
  pub each : (g : ℕ) → Contains (gates_in l) g → Contains pins (gate_sig l.net g) → InRow new g gate
  pub only : (g n : ℕ) → InRow new g n → InRow old g n ⊎ (n ≡ gate)

-- There is a row for each gate of the netlist. Those of the loop's gates have, of these gates, all that read them.
pub record AreReaders (l : LoopAt) (gates : List ℕ) (readers : List (List ℕ)) : Type 0 where
  pub size : length readers ≡ length l.net.gates
  pub each : (g n : ℕ) → Contains (gates_in l) g → Contains gates n → Contains (gate_at l.net n).pins (gate_sig l.net g) → InRow readers g n
  pub only : (g n : ℕ) → InRow readers g n → Contains gates n
