-- The number of a gate's block is one for each loop.
use Rattle.std.proofs.Common.{arith}
use Rattle.unroll.proofs.Common.{Parts, AreLoopsOf, loops_by, sweeps_of, IsOfLoops, Counted, counted_loops, counted_sweeps, IsCounted}
use Rattle.loops.specs.declared.structure.Blocks.{Blocks}
use Rattle.loops.specs.declared.structure.Cut.{Cut}
use Rattle.loops.specs.declared.structure.SweepCounts.{SweepCounts}
use Rattle.loops.specs.Blocks.{AreBlocksOf}
use Rattle.loops.proofs.Told.{blocks_tell_loops, told_parts}
use Rattle.unroll.specs.Laws.{EnoughByBlocks}

pub sweeps_are_of_loops : (net : Parts) (blocks : Blocks) (cut : Cut) (counts : SweepCounts) → AreBlocksOf net blocks → IsOfLoops (loops_by blocks cut) (sweeps_of blocks counts)
sweeps_are_of_loops net blocks cut counts are a b e = grind (arith, told_parts net blocks are a b e)

pub enough_by_blocks : EnoughByBlocks
enough_by_blocks net blocks cut counts are v width fixed = grind arith

-- so it is of a netlist with its loops and their sweeps
pub loops_are : (c : Counted) → IsCounted c → AreLoopsOf c.net (counted_loops c)
loops_are c is = blocks_tell_loops c.net c.blocks c.cut is.blocks is.cut

pub sweeps_are : (c : Counted) → IsCounted c → IsOfLoops (counted_loops c) (counted_sweeps c)
sweeps_are c is = sweeps_are_of_loops c.net c.blocks c.cut c.sweeps is.blocks
