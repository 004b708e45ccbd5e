use Rattle.case_split.specs.Ways.{IsWay}
use Rattle.case_split.proofs.nearness.begin.Given as goal

abbrev pub invariant-loop-gate : goal.invariant-loop-gate
invariant-loop-gate l = IsWay l.net l.way.seen.items l.way.weights.items l.way.gates.items l.way.columns.items
