use Rattle.std.proofs.Common.{arith}
use Rattle.loops.proofs.ListedLemmas.{begins_in_loop, begins_no_loop}
use Rattle.loops.proofs.looped_netlist.LoopedNetlist.begins_loop.Goals as goal

pub returns-then-block : goal.returns-then-block
returns-then-block c = grind (arith, begins_in_loop)

pub returns-else-block : goal.returns-else-block
returns-else-block c = grind (arith, begins_no_loop c.args.self.now.net c.args.self.now.blocks c.grouped.ensures.looped.blocks c.args.gate c.block_of-block.result.now)
