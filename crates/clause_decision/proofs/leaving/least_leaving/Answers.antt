use Rattle.std.proofs.Common.{arith}
use Rattle.cyc_base.proofs.VectorLemmas.{find-none}
use Rattle.clause_decision.proofs.Common.{columns}
use Rattle.refusals.specs.Tests.{is_leaving}
use Rattle.clause_decision.proofs.LeavingLemmas.{none-leaves}
use Rattle.clause_decision.proofs.leaving.least_leaving.Goals as goal

pub returns-in_default : goal.returns-in_default
returns-in_default c = grind (arith, find-none (columns c.args.net.now) (is_leaving c.args.net.now c.args.care.now), none-leaves c.args.net.now c.args.care.now)
