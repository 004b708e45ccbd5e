use Rattle.std.proofs.Common.{arith}
use Rattle.care_sets.proofs.care.Care.state_in.Goals as goal

pub returns : goal.returns
returns c = grind arith
