use Rattle.std.proofs.Common.{arith, length-set}
use Rattle.unroll.proofs.Common.{get_or_default}
use Rattle.unroll.proofs.TableLemmas.{entered_more}
use Rattle.unroll.proofs.copies.enter.Goals as goal

pub loop-gate-preserved : goal.loop-gate-preserved
loop-gate-preserved c = grind (arith, entered_more, get_or_default, length-set)
