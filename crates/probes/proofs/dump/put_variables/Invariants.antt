use Rattle.std.proofs.Common.{◌≡◌, ◌++◌}
use Rattle.probes.proofs.Common.{flat_map, range_with_len, variable_line}
use Rattle.probes.proofs.dump.put_variables.Given as goal

abbrev pub invariant-loop-number : goal.invariant-loop-number
invariant-loop-number l = l.text.items ≡ l.fn.text.items ++ flat_map (variable_line l.net) (range_with_len 0 l.number)
