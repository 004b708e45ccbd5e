use Rattle.std.proofs.Common.{ap, length, arith}
use Rattle.care_sets.proofs.binding.refuse_shape.Goals as goal

pub returns-clause-outputs : goal.returns-clause-outputs
returns-clause-outputs c = omega (arith, ap length c.outputs.ensures.outputs)
