use Rattle.std.proofs.Common.{All}
use Rattle.care_rows.specs.Models.{IsUsed}
use Rattle.care_rows.proofs.ColumnLemmas.{MarkedSoFar}
use Rattle.care_rows.proofs.columns.mark_rows.Given as goal

abbrev pub invariant-loop-row : goal.invariant-loop-row
invariant-loop-row l = MarkedSoFar (λ marks row. All (λ e. IsUsed marks e.wire) row.values) l.rows l.fn.used l.row-index l.used
