use Rattle.care_rows.specs.Models.{IsUsed}
use Rattle.care_rows.proofs.ColumnLemmas.{MarkedSoFar}
use Rattle.care_rows.proofs.columns.mark_signals.Given as goal

abbrev pub invariant-loop-signal : goal.invariant-loop-signal
invariant-loop-signal l = MarkedSoFar IsUsed l.signals l.fn.used l.signal-index l.used
