use Rattle.std.proofs.Common.{true≢false, arith}
use Rattle.explanations.proofs.SearchLemmas.{same_step, not_both}
use Rattle.explanations.proofs.CycleLemmas.{closing_kept, closing_found, not_nearer}
use Rattle.explanations.proofs.cycles.closing_step.Goals as goal

pub loop-node-preserved : goal.loop-node-preserved
loop-node-preserved c = grind (arith, closing_found, closing_kept, same_step, true≢false, not_nearer, not_both)
