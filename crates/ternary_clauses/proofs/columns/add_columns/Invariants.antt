use Rattle.std.proofs.Common.{◌≡◌, ◌+◌}
use Rattle.ternary_clauses.proofs.Common.{SaysColumns}
use Rattle.ternary_clauses.proofs.columns.add_columns.Given as goal

abbrev pub invariant-loop : goal.invariant-loop
invariant-loop l = record {
  says : SaysColumns l.fn.formula l.formula l.rails.items l.counter;
  variables : l.formula.variables ≡ l.fn.formula.variables + l.counter;
}
