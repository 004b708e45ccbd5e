use Rattle.std.proofs.Common.{◌≡◌, ◌++◌, map}
use Rattle.care_rows.proofs.Common.{range_with_len, assumed_gate}
use Rattle.care_rows.proofs.assumed.add_assumed.Given as goal

abbrev pub invariant-loop-number : goal.invariant-loop-number
invariant-loop-number l = l.gates.items ≡ l.initial.gates.items ++ map (assumed_gate l.inputs l.first l.mark l.old) (range_with_len 0 l.number)
