use Rattle.std.proofs.Common.{true, false, Some, subst, rules, arith}
use Rattle.clause_queries.specs.Queries.{IsReply}
use Rattle.clause_queries.proofs.DescentLemmas.{possible-vectors}
use Rattle.clause_queries.proofs.query.Query.is_possible.Goals as goal

pub returns-in_ok-ask-clause-vectors : goal.returns-in_ok-ask-clause-vectors
returns-in_ok-ask-clause-vectors c = possible-vectors c.args.self.now c.args.assumptions.now (Some true) (search rules)

pub returns-in-NoModel-clause-vectors : goal.returns-in-NoModel-clause-vectors
returns-in-NoModel-clause-vectors c = grind (arith, possible-vectors c.args.self.now c.args.assumptions.now (Some false))
