use Rattle.std.proofs.Common.{◌-◌, length}
use Rattle.verdict.specs.Pieces.{AreKnownBefore}
use Rattle.verdict.proofs.undetermined.some_of.Given as goal

abbrev pub invariant-loop-start : goal.invariant-loop-start
invariant-loop-start l = AreKnownBefore l.question.net l.question.care l.gates l.start

abbrev pub decreases-loop-start : goal.decreases-loop-start
decreases-loop-start l = length l.gates - l.start
