use Rattle.std.proofs.Common.{◌≡◌, replicate, []}
use Rattle.loops.proofs.gate_list.empty_lists.Given as goal

abbrev pub invariant-loop : goal.invariant-loop
invariant-loop l = l.lists.items ≡ replicate l.counter []
