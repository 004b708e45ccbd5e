use Rattle.std.proofs.Common.{take, length}
use Rattle.explain_text.proofs.Common.{AddMarks, IsAmong}
use Rattle.explain_text.proofs.columns.mark_columns.Given as goal

abbrev pub invariant-loop-signal : goal.invariant-loop-signal
invariant-loop-signal l = AddMarks (IsAmong (length l.fn.read) (take l.signal-index l.signals)) l.fn.read l.read
