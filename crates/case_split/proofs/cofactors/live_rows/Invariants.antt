use Rattle.std.proofs.Common.{◌≡◌, take}
use Rattle.case_split.specs.Cofactors.{live_rows}
use Rattle.case_split.proofs.cofactors.live_rows.Given as goal

abbrev pub invariant-loop-row : goal.invariant-loop-row
invariant-loop-row l = l.live.items ≡ live_rows (take l.row-index l.rows) l.operands
