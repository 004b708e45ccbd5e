use Rattle.std.proofs.Common.{arith}
use Rattle.clause_queries.proofs.AnswerLemmas.{loaded-more}
use Rattle.clause_queries.proofs.query.Query.prefer.Goals as goal

pub returns-in_err-add_all : goal.returns-in_err-add_all
returns-in_err-add_all c = grind (arith, loaded-more c.self.inside.variables c.self.inside.names c.add_all.new.self c.self.inside.solver.formula)

pub returns-in_err-lits : goal.returns-in_err-lits
returns-in_err-lits c = grind (arith, loaded-more c.self.inside.variables c.self.inside.names c.add_all.new.self c.self.inside.solver.formula)

pub returns : goal.returns
returns c = grind (arith, loaded-more c.self.inside.variables c.self.inside.names c.add_all.new.self c.self.inside.solver.formula)
