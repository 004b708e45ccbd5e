use Rattle.std.proofs.Common.{arith}
use Rattle.verdict.proofs.ScopeLemmas.{cone_closes}
use Rattle.verdict.proofs.scopes.scope_of.Goals as goal

pub returns-clause-scope : goal.returns-clause-scope
returns-clause-scope c = grind (arith, cone_closes c.args.question.now.net c.args.gates.now c.in_ok-upstream_of.field-0.items)
