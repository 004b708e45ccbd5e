use Rattle.std.proofs.Common.{◌-◌, arith}
use Rattle.components.proofs.StepLemmas.{cut_more}
use Rattle.components.proofs.search.merge.Goals as goal

pub loop-group-preserved : goal.loop-group-preserved
loop-group-preserved c = grind (arith, cut_more)
