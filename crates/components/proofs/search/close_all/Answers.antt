use Rattle.std.proofs.Common.{arith}
use Rattle.components.proofs.ExploreLemmas.{started_rests}
use Rattle.components.proofs.search.close_all.Goals as goal

pub loop-node-init : goal.loop-node-init
loop-node-init c = grind (arith, started_rests)
