use Rattle.std.proofs.Common.{◌≡◌, take, map}
use Rattle.case_split.specs.Cofactors.{left_row}
use Rattle.case_split.proofs.cofactors.left_rows.Given as goal

abbrev pub invariant-loop-row : goal.invariant-loop-row
invariant-loop-row l = l.rows.items ≡ map (left_row l.left) (take l.row-index l.live)
