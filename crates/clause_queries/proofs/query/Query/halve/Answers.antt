use Rattle.std.proofs.Common.{◌≡◌, ◌+◌, ◌-◌, ◌/◌, ◌++◌, ◌∷◌, [], get_or, true, subst, arith}
use Rattle.clause_formulas.specs.Formulas.{says}
use Rattle.clause_queries.specs.Queries.{IsReply}
use Rattle.clause_queries.proofs.BisectionLemmas.{open-lower, open-higher}
use Rattle.clause_queries.proofs.query.Query.halve.Goals as goal

pub returns-in-Model-clause-interval : goal.returns-in-Model-clause-interval
returns-in-Model-clause-interval c =
    let low = c.args.interval.now.low in
    let high = c.args.interval.now.high in
    grind (arith, open-lower c.args.self.now c.args.literals.now c.args.assumptions.now low high (low + c.min-step.result) c.first_true-interval.result c.in-Model.model.items c.requires.interval)

pub returns-in-NoModel-clause-interval : goal.returns-in-NoModel-clause-interval
returns-in-NoModel-clause-interval c =
    let low = c.args.interval.now.low in
    let high = c.args.interval.now.high in
    grind (arith, open-higher c.args.self.now c.args.literals.now c.args.assumptions.now low high (low + c.min-step.result) c.requires.rising c.requires.interval)
