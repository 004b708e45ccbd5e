use Rattle.std.proofs.Common.{◌+◌, refl}
use Rattle.ternary_clauses.proofs.RailLemmas.{column-new}
use Rattle.ternary_clauses.proofs.rails.new_column.Goals as goal

pub returns-clause-rails : goal.returns-clause-rails
returns-clause-rails c = column-new c.args.formula.now (record { variables = c.args.formula.now.variables + 1; literals = c.args.formula.now.literals }) c.requires refl refl
