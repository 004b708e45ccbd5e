-- Marks of the signals that no loop takes part in, while they are found block by block.
use Rattle.std.specs.Prelude.{◌≡◌, ◌⊎◌, ◌↔◌, ◌+◌, ◌<◌, ℕ, Bool, true, List, length, slice_index_or}
use Rattle.netlist.specs.Netlists.{count, gate_sig, is_marked, columns}
use Rattle.netlist.specs.declared.parts.Parts.{Parts}
use Rattle.loops.specs.Blocks.{block_at, home_of}
use Rattle.loops.specs.declared.structure.Blocks.{Blocks}
use Rattle.care_rows.specs.Rows.{IsSteady}

-- the gate is one of the first i of the block at place b
pub record IsAmong (blocks : Blocks) (b i gate : ℕ) : Type 0 where
  pub place : ℕ
  pub early : place < i
  pub within : place < length (block_at blocks b).gates
  pub is : slice_index_or (block_at blocks b).gates place 0 ≡ gate

-- a gate is in a block before place b, or one of the first i of that at place b
abbrev pub IsDone : Blocks → ℕ → ℕ → ℕ → Type 0
IsDone blocks b i gate = (home_of blocks gate < b) ⊎ IsAmong blocks b i gate

-- the marks of columns and of gates that are done are right
pub record AreSteadyBefore (net : Parts) (blocks : Blocks) (b i : ℕ) (marks : List Bool) : Type 0 where
  pub width : length marks ≡ count net
  pub columns_marked : (s : ℕ) → s < columns net → is_marked marks s ≡ true
  pub each : (gate : ℕ) → gate < length net.gates → IsDone blocks b i gate → (is_marked marks (columns net + gate) ≡ true) ↔ IsSteady net (gate_sig net gate)
