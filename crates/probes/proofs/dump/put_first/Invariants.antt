use Rattle.std.proofs.Common.{◌≡◌, ◌++◌, drop}
use Rattle.probes.proofs.Common.{flat_map, value_line, first_changes}
use Rattle.probes.proofs.dump.put_first.Given as goal

abbrev pub invariant-loop-change : goal.invariant-loop-change
invariant-loop-change l =
    l.text.items ++ flat_map value_line (first_changes (drop l.change-index l.changes)) ≡ l.fn.text.items ++ flat_map value_line (first_changes l.changes)
