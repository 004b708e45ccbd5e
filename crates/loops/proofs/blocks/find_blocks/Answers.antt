use Rattle.std.proofs.Common.{arith}
use Rattle.netlist.proofs.GraphLemmas.{length-gate_graph}
use Rattle.loops.proofs.BlockLemmas.{are_blocks, lists_within}
use Rattle.loops.proofs.blocks.find_blocks.Goals as goal

pub grouped-requires-clause-size : goal.grouped-requires-clause-size
grouped-requires-clause-size c = grind (arith, length-gate_graph)

pub blocks_of-requires : goal.blocks_of-requires
blocks_of-requires c = grind (arith, lists_within)

pub returns : goal.returns
returns c = grind (arith, are_blocks)
