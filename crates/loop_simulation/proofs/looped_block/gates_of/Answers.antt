use Rattle.loops.proofs.OrderLemmas.{block_gates}
use Rattle.loop_simulation.proofs.looped_block.gates_of.Goals as goal

pub returns : goal.returns
returns c = block_gates c.args.blocks.now c.items.result.now _ c.args.number _ c.requires c.items.ensures c.items-2.ensures
