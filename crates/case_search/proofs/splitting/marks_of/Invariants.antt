use Rattle.std.proofs.Common.{◌≡◌, length}
use Rattle.case_search.proofs.splitting.marks_of.Given as goal

abbrev pub invariant-loop-gate : goal.invariant-loop-gate
invariant-loop-gate l = length l.marks.items ≡ length l.net.gates
