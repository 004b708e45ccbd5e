use Rattle.care_rows.proofs.ColumnLemmas.{PinsSoFar}
use Rattle.care_rows.proofs.columns.mark_pins.Given as goal

abbrev pub invariant-loop-gate : goal.invariant-loop-gate
invariant-loop-gate l = PinsSoFar l.net l.cone l.fn.used l.gate l.used
