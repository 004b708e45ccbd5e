use Rattle.std.proofs.Common.{arith}
use Rattle.loop_simulation.proofs.LoopLemmas.{cuts_fit}
use Rattle.loop_simulation.proofs.looped_block.LoopedBlock.cut_count.Goals as goal

pub overflow_cast-result : goal.overflow_cast-result
overflow_cast-result c = grind (arith, cuts_fit _ c.self.invariant)
