use Rattle.explain_text.proofs.Common.{AddMarks, IsReadBelow}
use Rattle.explain_text.proofs.columns.mark_read.Given as goal

abbrev pub invariant-loop-gate : goal.invariant-loop-gate
invariant-loop-gate l = AddMarks (IsReadBelow l.net l.upstream l.gate) l.fn.read l.read
