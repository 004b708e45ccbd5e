use Rattle.std.proofs.Common.{arith}
use Rattle.loops.proofs.looped_netlist.source_in_loop.Goals as goal

pub returns-clause-source : goal.returns-clause-source
returns-clause-source c = grind arith
