use Rattle.std.proofs.Common.{arith}
use Rattle.explanations.proofs.shortest.nearest.Goals as goal

pub returns : goal.returns
returns c = grind arith
