use Rattle.std.proofs.Common.{arith}
use Rattle.maker.proofs.CellLemmas.{item_more}
use Rattle.maker.proofs.lines.put_only.Goals as goal

pub loop-j-preserved : goal.loop-j-preserved
loop-j-preserved c = grind (arith, item_more)
