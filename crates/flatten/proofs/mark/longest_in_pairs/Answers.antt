use Rattle.std.proofs.Common.{arith}
use Rattle.cyc_base.proofs.TildeLemmas.{max_is}
use Rattle.flatten.proofs.Marks.{longest_pairs}
use Rattle.flatten.proofs.mark.longest_in_pairs.Goals as goal

pub loop-formal-preserved : goal.loop-formal-preserved
loop-formal-preserved c = grind (arith, longest_pairs c.args.pairs.now c.loop-formal.formal-index c.loop-formal-item.result, max_is c.loop-formal.longest c.longest_run.result, max_is c.max.result c.longest_run-in-loop-formal.result)
