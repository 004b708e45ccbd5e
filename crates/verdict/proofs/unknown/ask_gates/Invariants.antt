use Rattle.std.proofs.Common.{◌-◌, length}
use Rattle.verdict.specs.Pieces.{AreToldBefore}
use Rattle.verdict.proofs.unknown.ask_gates.Given as goal

abbrev pub invariant-loop-alloc : goal.invariant-loop-alloc
invariant-loop-alloc l = AreToldBefore l.question.net l.question.care l.gates l.found.items

abbrev pub decreases-loop-alloc : goal.decreases-loop-alloc
decreases-loop-alloc l = length l.gates - length l.found.items
