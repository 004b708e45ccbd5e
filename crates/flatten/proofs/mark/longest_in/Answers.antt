use Rattle.std.proofs.Common.{arith}
use Rattle.cyc_base.proofs.TildeLemmas.{longest_more, max_is}
use Rattle.flatten.proofs.mark.longest_in.Goals as goal

pub loop-name-preserved : goal.loop-name-preserved
loop-name-preserved c = grind (arith, longest_more c.args.names.now c.loop-name.name-index c.name-item.result, max_is c.loop-name.longest c.longest_run.result)
