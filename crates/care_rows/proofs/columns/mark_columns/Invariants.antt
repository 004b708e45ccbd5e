use Rattle.std.proofs.Common.{◌≡◌, true}
use Rattle.netlist.specs.Netlists.{is_marked}
use Rattle.care_rows.proofs.ColumnLemmas.{MarkedSoFar}
use Rattle.care_rows.proofs.columns.mark_columns.Given as goal

abbrev pub invariant-loop-column : goal.invariant-loop-column
invariant-loop-column l = MarkedSoFar (λ marks column. is_marked marks column ≡ true) l.columns l.fn.used l.column-index l.used
