use Rattle.std.proofs.Common.{◌≡◌, ◌++◌, drop}
use Rattle.probes.proofs.Common.{timed_lines, later_changes}
use Rattle.probes.proofs.dump.put_later.Given as goal

abbrev pub invariant-loop-change : goal.invariant-loop-change
invariant-loop-change l =
    l.text.items ++ timed_lines l.time (later_changes (drop l.change-index l.changes)) ≡ l.fn.text.items ++ timed_lines 0 (later_changes l.changes)
