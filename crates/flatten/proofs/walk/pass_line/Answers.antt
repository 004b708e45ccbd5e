use Rattle.std.proofs.Common.{arith}
use Rattle.flatten.proofs.walk.pass_line.Goals as goal

pub returns-clause-passed : goal.returns-clause-passed
returns-clause-passed c = grind arith
