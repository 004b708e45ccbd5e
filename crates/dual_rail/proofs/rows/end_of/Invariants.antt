use Rattle.std.proofs.Common.{◌≡◌, take}
use Rattle.dual_rail.specs.Expansion.{end_of}
use Rattle.dual_rail.proofs.rows.end_of.Given as goal

abbrev pub invariant-loop-pin : goal.invariant-loop-pin
invariant-loop-pin l = l.end ≡ end_of (take l.pin l.lits)
