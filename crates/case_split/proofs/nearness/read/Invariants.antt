use Rattle.case_split.specs.Ways.{IsWay}
use Rattle.case_split.proofs.nearness.read.Given as goal

abbrev pub invariant-loop-pin : goal.invariant-loop-pin
invariant-loop-pin l = IsWay l.net l.way.seen.items l.way.weights.items l.way.gates.items l.way.columns.items
