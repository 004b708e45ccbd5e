use Rattle.case_split.specs.Pins.{AreRowsOf}
use Rattle.case_split.proofs.pins.rows_of.Given as goal

abbrev pub invariant-loop-place : goal.invariant-loop-place
invariant-loop-place l = AreRowsOf l.cases l.firsts l.pins l.place l.rows.items
