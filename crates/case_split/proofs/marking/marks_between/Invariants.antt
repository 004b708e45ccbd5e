use Rattle.std.proofs.Common.{◌≡◌, length}
use Rattle.case_split.proofs.marking.marks_between.Given as goal

abbrev pub invariant-loop-place : goal.invariant-loop-place
invariant-loop-place l = length l.marks.items ≡ length l.looped.net.gates
