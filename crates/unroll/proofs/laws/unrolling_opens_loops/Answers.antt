use Rattle.unroll.proofs.Opened.{unrolled_is_loop_free}
use Rattle.unroll.proofs.laws.unrolling_opens_loops.Goals as goal

pub returns : goal.returns
returns c = record { loop_free = unrolled_is_loop_free }
