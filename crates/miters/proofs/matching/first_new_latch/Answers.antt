use Rattle.std.proofs.Common.{arith}
use Rattle.miters.proofs.NameLemmas.{find_next, find_here}
use Rattle.miters.proofs.matching.first_new_latch.Goals as goal

pub loop-number-preserved : goal.loop-number-preserved
loop-number-preserved c = grind (arith, find_next)

pub returns-then-not-is_latch : goal.returns-then-not-is_latch
returns-then-not-is_latch c = grind (arith, find_here)
