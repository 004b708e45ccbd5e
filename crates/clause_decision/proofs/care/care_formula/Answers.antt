use Rattle.std.proofs.Common.{arith}
use Rattle.clause_decision.proofs.Common.{columns}
use Rattle.clause_decision.proofs.FormulaLemmas.{over-columns}
use Rattle.clause_decision.proofs.care.care_formula.Goals as goal

pub say_care-requires-clause-over : goal.say_care-requires-clause-over
say_care-requires-clause-over c = grind (arith, over-columns c.in_ok-formula.formula c.add_columns.new.formula c.in_ok-columns.columns.items (columns c.args.net.now) c.in_ok-formula.ensures.variables c.in_ok-formula.ensures.literals)
