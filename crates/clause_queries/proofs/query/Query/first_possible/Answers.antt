use Rattle.std.proofs.Common.{◌≡◌, ◌-◌, ◌++◌, ◌∷◌, [], length, get_or, true, sym, subst, arith}
use Rattle.std.proofs.lemmas.Bool.Decides.{nat_tests}
use Rattle.clause_formulas.specs.Formulas.{says}
use Rattle.clause_queries.specs.Queries.{IsReply}
use Rattle.clause_queries.specs.Bisection.{IsOpen}
use Rattle.clause_queries.proofs.BisectionLemmas.{open-first, possible-earlier, none-earlier}
use Rattle.clause_queries.proofs.query.Query.first_possible.Goals as goal

pub bisect-requires-clause-interval : goal.bisect-requires-clause-interval
bisect-requires-clause-interval c =
    let last = length c.args.literals.now - 1 in
    grind (arith, open-first c.args.self.now c.args.literals.now c.args.assumptions.now c.first_true-high.result, nat_tests, possible-earlier c.args.self.now c.args.literals.now c.args.assumptions.now last c.first_true-high.result c.in-Model.model.items)

pub returns-in-NoModel-clause-first : goal.returns-in-NoModel-clause-first
returns-in-NoModel-clause-first c = λ j less.
    let last = length c.args.literals.now - 1 in
    none-earlier c.args.self.now c.args.literals.now c.args.assumptions.now last c.requires.rising (omega arith)
    (subst (IsReply c.args.self.now (c.args.assumptions.now ++ get_or c.args.literals.now last 0 ∷ [])) c.in-NoModel.is c.in_ok-model.ensures.reply)
    j (omega arith)
