use Rattle.std.proofs.Common.{◌≡◌, ◌++◌, map}
use Rattle.miters.proofs.Common.{range_with_len, moved_gate_by}
use Rattle.miters.proofs.joining.add_moved.Given as goal

abbrev pub invariant-loop-number : goal.invariant-loop-number
invariant-loop-number l = l.gates.items ≡ l.initial.gates.items ++ map (moved_gate_by l.columns l.first l.mark l.b) (range_with_len 0 l.number)
