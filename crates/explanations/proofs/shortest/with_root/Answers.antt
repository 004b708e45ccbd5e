use Rattle.std.proofs.Common.{arith}
use Rattle.explanations.proofs.shortest.with_root.Goals as goal

pub returns-in_default : goal.returns-in_default
returns-in_default c = grind arith

pub returns-in-Some-2 : goal.returns-in-Some-2
returns-in-Some-2 c = grind arith

pub returns-in-None : goal.returns-in-None
returns-in-None c = grind arith
