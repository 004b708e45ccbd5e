use Rattle.std.proofs.Common.{◌≡◌, ◌≤◌, length}
use Rattle.std.specs.List.{filter, range_with_len}
use Rattle.netlist.specs.Netlists.{is_marked}
use Rattle.case_split.proofs.splitting.copied_count.Given as goal

abbrev pub invariant-loop-gate : goal.invariant-loop-gate
invariant-loop-gate l = (l.count ≡ length (filter (is_marked l.copied) (range_with_len 0 l.gate))) × (l.count ≤ l.gate)
