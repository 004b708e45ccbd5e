use Rattle.std.proofs.Common.{◌∙◌, subst, arith}
use Rattle.sat.specs.Answers.{IsAnswer}
use Rattle.clause_queries.proofs.AnswerLemmas.{loaded-more, model-reply, none-reply}
use Rattle.clause_queries.proofs.query.Query.ask.Goals as goal

pub returns-in_err-add_all-clause-unchanged : goal.returns-in_err-add_all-clause-unchanged
returns-in_err-add_all-clause-unchanged c = grind (arith, loaded-more c.self.inside.variables c.self.inside.names c.add_all.new.self c.self.inside.solver.formula)

pub returns-in_err-assumed-clause-unchanged : goal.returns-in_err-assumed-clause-unchanged
returns-in_err-assumed-clause-unchanged c = grind (arith, loaded-more c.self.inside.variables c.self.inside.names c.add_all.new.self c.self.inside.solver.formula)

pub returns-in_err-solve-clause-unchanged : goal.returns-in_err-solve-clause-unchanged
returns-in_err-solve-clause-unchanged c = grind (arith, loaded-more c.self.inside.variables c.self.inside.names c.add_all.new.self c.self.inside.solver.formula)

pub returns-in_err-values_of-in-Sat-clause-unchanged : goal.returns-in_err-values_of-in-Sat-clause-unchanged
returns-in_err-values_of-in-Sat-clause-unchanged c = grind (arith, loaded-more c.self.inside.variables c.self.inside.names c.add_all.new.self c.self.inside.solver.formula)

pub returns-in-Sat-clause-unchanged : goal.returns-in-Sat-clause-unchanged
returns-in-Sat-clause-unchanged c = grind (arith, loaded-more c.self.inside.variables c.self.inside.names c.add_all.new.self c.self.inside.solver.formula)

pub returns-in-Unsat-clause-unchanged : goal.returns-in-Unsat-clause-unchanged
returns-in-Unsat-clause-unchanged c = grind (arith, loaded-more c.self.inside.variables c.self.inside.names c.add_all.new.self c.self.inside.solver.formula)

pub returns-clause-unchanged : goal.returns-clause-unchanged
returns-clause-unchanged c = grind (arith, loaded-more c.self.inside.variables c.self.inside.names c.add_all.new.self c.self.inside.solver.formula)

pub returns-in-Sat-clause-reply : goal.returns-in-Sat-clause-reply
returns-in-Sat-clause-reply c =
    grind (
      arith,
      model-reply c.args.self.now c.self.inside.variables c.self.inside.names c.add_all.new.self c.self.inside.solver.formula c.solve.new.self.formula c.solve.new.self.model c.in_ok-values_of-in-Sat.field-0.items c.args.assumptions.now c.deref.result.now
          c.self.view_is c.self.invariant c.add_all.ensures.more,
    )

pub returns-in-Unsat-clause-reply : goal.returns-in-Unsat-clause-reply
returns-in-Unsat-clause-reply c =
    none-reply c.args.self.now c.self.inside.variables c.self.inside.names c.add_all.new.self c.self.inside.solver.formula c.solve.new.self.formula c.args.assumptions.now c.deref.result.now
    c.self.view_is c.self.invariant c.add_all.ensures.more c.in_ok-add_all.ensures.numbered c.requires c.in_ok-solve.ensures.formula (c.deref.ensures.value ∙ c.in_ok-assumed.ensures)
    (subst (IsAnswer c.solve.new.self.formula c.solve.new.self.model c.deref.result.now) c.in-Unsat.is c.in_ok-solve.ensures.answer)
