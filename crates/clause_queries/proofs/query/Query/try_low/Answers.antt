use Rattle.std.proofs.Common.{◌∙◌, map, subst, sym}
use Rattle.clause_formulas.specs.Formulas.{negation}
use Rattle.clause_queries.specs.Clauses.{IsWithin}
use Rattle.clause_queries.specs.Queries.{IsReply, IsModelUnder}
use Rattle.clause_queries.proofs.DescentLemmas.{under-first, negations-within}
use Rattle.clause_queries.proofs.query.Query.try_low.Goals as goal

pub ask-requires : goal.ask-requires
ask-requires c =
    subst (IsWithin c.args.self.now.variables) (sym (c.deref.ensures.value ∙ c.in_ok-assumed.ensures))
    (negations-within c.args.self.now.variables c.args.fixed.now c.args.columns.now c.requires.fixed c.requires.columns)

pub returns-in-Model-clause-model : goal.returns-in-Model-clause-model
returns-in-Model-clause-model c = λ _.
    let reply = subst (IsReply c.args.self.now c.deref.result.now) c.in-Model.is c.in_ok-lower.ensures.reply in
    under-first c.args.self.now c.args.fixed.now (map negation c.args.columns.now) c.in-Model.lower.items
    (subst (λ assumed. IsModelUnder c.args.self.now assumed c.in-Model.lower.items) (c.deref.ensures.value ∙ c.in_ok-assumed.ensures) reply.0)
