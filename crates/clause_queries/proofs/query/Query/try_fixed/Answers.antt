use Rattle.std.proofs.Common.{subst}
use Rattle.clause_queries.specs.Queries.{IsReply}
use Rattle.clause_queries.proofs.query.Query.try_fixed.Goals as goal

pub returns-in-Model-clause-model : goal.returns-in-Model-clause-model
returns-in-Model-clause-model c = λ _.
    let reply = subst (IsReply c.args.self.now c.args.fixed.now) c.in-Model.is c.in_ok-other.ensures.reply in
    reply.0
