use Rattle.std.proofs.Common.{arith}
use Rattle.unroll.proofs.assembly.unrolled_gates.Goals as goal

pub returns : goal.returns
returns c = grind arith
