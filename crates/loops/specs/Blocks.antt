-- The blocks of a netlist: the strongly connected components of its gates along pins.
use Rattle.std.specs.Prelude.{◌≡◌, ◌<◌, ◌≤◌, ◌==◌, ◌↔◌, ℕ, true, false, List, [], length, filter, slice_index_or}
use Rattle.std.specs.List.{range_with_len}
use Rattle.netlist.specs.declared.parts.Parts.{Parts}
use Rattle.netlist.specs.Walks.{Feeds}
use Rattle.loops.specs.declared.structure.Block.{Block}
use Rattle.loops.specs.declared.structure.Blocks.{Blocks}
use Rattle.loops.specs.Walks.{AnyGate, Leads, SameBlock}

abbrev pub no_block : Block
no_block = record { gates = []; looped = false }

-- a block by its place
abbrev pub block_at : Blocks → ℕ → Block
block_at blocks b = slice_index_or blocks.list b no_block

-- the place of a gate's block
abbrev pub home_of : Blocks → ℕ → ℕ
home_of blocks n = slice_index_or blocks.home n 0

-- the gates of the block at place b, in flat order
abbrev pub gates_at : Blocks → ℕ → List ℕ
gates_at blocks b = filter (λ n. home_of blocks n == b) (range_with_len 0 (length blocks.home))

-- These are the netlist's blocks: each with its gates in flat order, after the blocks that it reads.
-- A block is a loop where a walk leads from a gate of it back to that gate.
pub record AreBlocksOf (net : Parts) (blocks : Blocks) : Type 0 where
  pub homes : length blocks.home ≡ length net.gates
  pub home : (n : ℕ) → n < length net.gates → home_of blocks n < length blocks.list
  pub same : (a b : ℕ) → a < length net.gates → b < length net.gates →
      (home_of blocks a ≡ home_of blocks b) ↔ SameBlock net a b
  pub gates : (b : ℕ) → b < length blocks.list → (block_at blocks b).gates ≡ gates_at blocks b
  pub filled : (b : ℕ) → b < length blocks.list → 0 < length (block_at blocks b).gates
  pub after_reads : (a b : ℕ) → Feeds net a b → home_of blocks a ≤ home_of blocks b
  pub looped : (n : ℕ) → n < length net.gates →
      ((block_at blocks (home_of blocks n)).looped ≡ true) ↔ Leads net AnyGate n n
