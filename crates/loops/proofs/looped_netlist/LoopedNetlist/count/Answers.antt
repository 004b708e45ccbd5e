use Rattle.std.proofs.Common.{arith}
use Rattle.loops.proofs.looped_netlist.LoopedNetlist.count.Goals as goal

pub overflow_cast-result : goal.overflow_cast-result
overflow_cast-result c = (let most = rw c.filter.ensures.source at c.count.ensures.bound in omega (arith, c.gates.type_inv))
