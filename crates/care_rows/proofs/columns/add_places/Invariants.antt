use Rattle.care_rows.proofs.ColumnLemmas.{PlacedSoFar}
use Rattle.care_rows.proofs.columns.add_places.Given as goal

abbrev pub invariant-loop-mark : goal.invariant-loop-mark
invariant-loop-mark l = PlacedSoFar l.marks l.first l.initial.places.items l.mark-index l.next l.places.items
