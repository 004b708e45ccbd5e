use Rattle.std.proofs.Common.{◌-◌, length}
use Rattle.verdict.proofs.pieces.are_small.Given as goal

abbrev pub decreases-loop-start : goal.decreases-loop-start
decreases-loop-start l = length l.gates - l.start
