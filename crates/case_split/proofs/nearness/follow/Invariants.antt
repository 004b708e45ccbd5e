use Rattle.case_split.specs.Ways.{IsWay}
use Rattle.case_split.proofs.nearness.follow.Given as goal

abbrev pub invariant-loop-place : goal.invariant-loop-place
invariant-loop-place l = IsWay l.net l.way.seen.items l.way.weights.items l.way.gates.items l.way.columns.items
