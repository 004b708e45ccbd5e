use Rattle.std.proofs.Common.{arith}
use Rattle.care_sets.proofs.care.Care.assume.Goals as goal

pub returns-clause-net : goal.returns-clause-net
returns-clause-net c = grind arith
