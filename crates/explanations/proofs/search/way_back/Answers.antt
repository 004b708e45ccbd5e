use Rattle.std.proofs.Common.{arith}
use Rattle.explanations.proofs.search.way_back.Goals as goal

pub loop-from-preserved : goal.loop-from-preserved
loop-from-preserved c = grind arith
