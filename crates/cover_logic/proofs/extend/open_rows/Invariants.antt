use Rattle.std.proofs.Common.{◌≡◌, take}
use Rattle.cover_logic.specs.Partial.{open_rows}
use Rattle.cover_logic.proofs.extend.open_rows.Given as goal

abbrev pub invariant-loop-row : goal.invariant-loop-row
invariant-loop-row l = l.left.items ≡ open_rows (take l.row-index l.rows) l.pins
