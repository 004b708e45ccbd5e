-- A netlist with its loops, and how many sweeps each of them needs.
use Rattle.std.specs.Prelude.{◌≡◌, ℕ, length}
use Rattle.netlist.specs.declared.parts.Parts.{Parts}
use Rattle.netlist.specs.Netlists.{IsNetlist}
use Rattle.loops.specs.declared.structure.Blocks.{Blocks}
use Rattle.loops.specs.declared.structure.Cut.{Cut}
use Rattle.loops.specs.declared.structure.SweepCounts.{SweepCounts}
use Rattle.loops.specs.Blocks.{AreBlocksOf}
use Rattle.loops.specs.Cuts.{Loops, IsCutOf, in_one_loop, loops_by}
use Rattle.loops.specs.Looped.{Looped}
use Rattle.unroll.specs.Unrolled.{sweeps_of, unrolled, unrolled_size}

pub record Counted : Type 0 where
  pub net : Parts
  pub blocks : Blocks
  pub cut : Cut
  pub sweeps : SweepCounts

-- it is a netlist with its own blocks and cut wires, and there is a number for each block
pub record IsCounted (counted : Counted) : Type 0 where
  pub valid : IsNetlist counted.net
  pub blocks : AreBlocksOf counted.net counted.blocks
  pub cut : IsCutOf counted.net counted.cut
  pub sweeps : length counted.sweeps.per_block ≡ length counted.blocks.list

-- a netlist with its loops, and these sweeps
abbrev pub with_sweeps : Looped → SweepCounts → Counted
with_sweeps looped sweeps = record { net = looped.net; blocks = looped.blocks; cut = looped.cut; sweeps = sweeps }

-- the netlist with its loops
abbrev pub looped_in : Counted → Looped
looped_in counted = record { net = counted.net; blocks = counted.blocks; cut = counted.cut }

-- which gates are in one loop, and which are cut wires
abbrev pub counted_loops : Counted → Loops
counted_loops counted = loops_by counted.blocks counted.cut

-- how many sweeps the loop of a gate needs
abbrev pub counted_sweeps : Counted → ℕ → ℕ
counted_sweeps counted = sweeps_of counted.blocks counted.sweeps

-- the netlist unrolled by these sweeps
abbrev pub unrolled_by : Counted → Parts
unrolled_by counted = unrolled counted.net (counted_loops counted) (counted_sweeps counted)

-- and its size, in gates and latches
abbrev pub unrolled_size_by : Counted → ℕ
unrolled_size_by counted = unrolled_size counted.net (in_one_loop counted.blocks) (counted_sweeps counted)
