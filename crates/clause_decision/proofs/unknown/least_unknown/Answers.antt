use Rattle.clause_decision.proofs.Common.{columns}
use Rattle.refusals.specs.Tests.{is_unknown_at}
use Rattle.clause_decision.proofs.unknown.least_unknown.Goals as goal

pub returns-in-Ok : goal.returns-in-Ok
returns-in-Ok c = c.ask_least.ensures (columns c.args.net.now) (is_unknown_at c.args.net.now c.args.care.now c.args.gate) c.in-Ok.ensures
