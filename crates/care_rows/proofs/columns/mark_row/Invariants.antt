use Rattle.care_rows.specs.Models.{IsUsed}
use Rattle.care_rows.proofs.ColumnLemmas.{MarkedSoFar}
use Rattle.care_rows.proofs.columns.mark_row.Given as goal

abbrev pub invariant-loop-asked : goal.invariant-loop-asked
invariant-loop-asked l = MarkedSoFar (λ marks e. IsUsed marks e.wire) l.asked-items l.fn.used l.asked-index l.used
