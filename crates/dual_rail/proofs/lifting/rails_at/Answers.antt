use Rattle.std.proofs.Common.{true, arith}
use Rattle.dual_rail.proofs.SurelyLemmas.{no_rails}
use Rattle.dual_rail.proofs.TableLemmas.{IsLift-at}
use Rattle.dual_rail.proofs.lifting.rails_at.Goals as goal

pub returns-then-is_marked : goal.returns-then-is_marked
returns-then-is_marked c l s pins table = grind (arith, IsLift-at c.args.node no_rails table c.requires true)
