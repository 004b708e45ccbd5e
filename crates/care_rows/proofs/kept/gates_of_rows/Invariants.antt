use Rattle.std.proofs.Common.{◌≡◌, take}
use Rattle.care_rows.specs.Restricted.{gates_of_rows}
use Rattle.care_rows.proofs.kept.gates_of_rows.Given as goal

abbrev pub invariant-loop-row : goal.invariant-loop-row
invariant-loop-row l = l.gates.items ≡ gates_of_rows l.net (take l.row-index l.rows)
