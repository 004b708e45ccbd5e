use Rattle.std.proofs.Common.{arith}
use Rattle.loops.proofs.LoopedLemmas.{one_loop_is_told}
use Rattle.loops.proofs.looped_netlist.LoopedNetlist.are_in_one_loop.Goals as goal

pub returns : goal.returns
returns c = grind (arith, one_loop_is_told _ c.self.invariant c.args.gate c.args.other)
