use Rattle.std.proofs.Common.{◌≡◌, map, take}
use Rattle.ternary_clauses.specs.Orders.{exchanged_row}
use Rattle.ternary_clauses.proofs.binding.exchanged_rows.Given as goal

abbrev pub invariant-loop-row : goal.invariant-loop-row
invariant-loop-row l = l.others.items ≡ map (exchanged_row l.fn.a l.fn.b) (take l.row-index l.rows)
