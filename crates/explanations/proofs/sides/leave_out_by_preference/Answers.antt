use Rattle.std.proofs.Common.{arith}
use Rattle.explanations.proofs.SideLemmas.{leaving_on}
use Rattle.explanations.proofs.sides.leave_out_by_preference.Goals as goal

pub returns : goal.returns
returns c = grind (arith, leaving_on)
