use Rattle.std.proofs.Common.{◌≡◌, ◌+◌, drop}
use Rattle.care_rows.specs.Models.{telling_of_rows}
use Rattle.care_rows.proofs.sizes.telling_of_rows.Given as goal

abbrev pub invariant-loop-row : goal.invariant-loop-row
invariant-loop-row l = l.gates + telling_of_rows (drop l.row-index l.rows) ≡ telling_of_rows l.rows
