use Rattle.std.proofs.Common.{arith}
use Rattle.ternary_clauses.proofs.ColumnLemmas.{columns-none, column-step}
use Rattle.ternary_clauses.proofs.columns.add_columns.Goals as goal

pub loop-init : goal.loop-init
loop-init c = record { says = rw c.new-rails.ensures.items (columns-none c.args.formula.now c.requires); variables = omega arith }

pub loop-preserved : goal.loop-preserved
loop-preserved c = record {
  says = rw c.in_ok-push.ensures.items (column-step c.args.formula.now c.loop.formula c.new_column.new.formula c.loop.rails.items c.loop.counter c.in_ok-column.column c.loop.invariant.says c.in_ok-column.ensures.rails);
  variables = omega (arith, c.loop.invariant.variables, c.in_ok-column.ensures.variables);
}

pub returns-clause-says : goal.returns-clause-says
returns-clause-says c = grind arith
