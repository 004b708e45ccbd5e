use Rattle.unroll.proofs.Above.{unrolled_is_above}
use Rattle.unroll.proofs.Counts.{enough_by_blocks}
use Rattle.unroll.proofs.Telling.{unrolled_tells_as_much}
use Rattle.unroll.proofs.laws.unrolling_determines.Goals as goal

pub returns-clause-enough : goal.returns-clause-enough
returns-clause-enough c = enough_by_blocks

pub returns-clause-above : goal.returns-clause-above
returns-clause-above c = unrolled_is_above

pub returns-clause-tells : goal.returns-clause-tells
returns-clause-tells c = unrolled_tells_as_much
