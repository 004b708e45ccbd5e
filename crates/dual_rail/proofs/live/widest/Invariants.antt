use Rattle.std.proofs.Common.{take}
use Rattle.dual_rail.proofs.Common.{MatchAlike}
use Rattle.dual_rail.proofs.live.widest.Given as goal

abbrev pub invariant-loop-row : goal.invariant-loop-row
invariant-loop-row l = MatchAlike l.rows l.pin l.kept.items (take l.row-index l.live)
