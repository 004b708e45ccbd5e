use Rattle.std.proofs.Common.{arith}
use Rattle.flatten.proofs.Libraries.{fold_taken}
use Rattle.flatten.proofs.library.add_all.Goals as goal

pub loop-name-preserved : goal.loop-name-preserved
loop-name-preserved c = grind (arith, fold_taken c.args.set.now.keys c.args.names.now c.loop-name.name-index c.name-item.result)
