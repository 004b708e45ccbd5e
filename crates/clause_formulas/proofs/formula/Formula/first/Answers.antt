use Rattle.std.proofs.Common.{refl}
use Rattle.clause_formulas.proofs.AddLemmas.{first-formula}
use Rattle.clause_formulas.proofs.formula.Formula.first.Goals as goal

pub returns-clause-formula : goal.returns-clause-formula
returns-clause-formula c = first-formula (record { variables = 1; literals = c.in_ok-literals.literals }) refl c.in_ok-literals.ensures.items
