use Rattle.std.proofs.Common.{◌≡◌, ◌++◌, length, map, reverse, take}
use Rattle.aig_core.proofs.Common.{visit}
use Rattle.aig_core.proofs.depth.add_visits.Given as goal

abbrev pub invariant-loop-node : goal.invariant-loop-node
invariant-loop-node l = l.tasks.items ≡ l.initial.tasks.items ++ map visit (take (length l.yielded) (reverse l.nodes))
