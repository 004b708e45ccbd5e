use Rattle.std.proofs.Common.{◌≡◌, map}
use Rattle.loops.proofs.Common.{block_of}
use Rattle.loops.proofs.blocks.blocks_of.Given as goal

abbrev pub invariant-loop-members : goal.invariant-loop-members
invariant-loop-members l = l.blocks.items ≡ map (block_of l.graph) l.yielded
