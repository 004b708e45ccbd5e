use Rattle.std.proofs.Common.{arith}
use Rattle.loops.proofs.LoopedLemmas.{cut_is_told}
use Rattle.loops.proofs.looped_netlist.LoopedNetlist.is_cut.Goals as goal

pub returns : goal.returns
returns c = grind (arith, cut_is_told _ c.self.invariant c.args.gate)
