use Rattle.std.proofs.Common.{rules}
use Rattle.bdd_ops.proofs.ComputedLemmas.{Contains-other}
use Rattle.bdd_ops.proofs.computed.ComputedTable.get.Goals as goal

pub returns-then-eq-5-clause-found : goal.returns-then-eq-5-clause-found
returns-then-eq-5-clause-found c = let found = Contains-other c.self.inside.choices c.self.inside.others (record { operation = c.args.operation; operands = c.args.q; answer = c.at-computed.result.answer }) (search rules) in rw (← c.self.view_is) found
