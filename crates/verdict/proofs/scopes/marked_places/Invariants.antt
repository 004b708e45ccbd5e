use Rattle.verdict.proofs.Common.{ListsMarked}
use Rattle.verdict.proofs.scopes.marked_places.Given as goal

abbrev pub invariant-loop-place : goal.invariant-loop-place
invariant-loop-place l = ListsMarked l.marks l.place l.places.items
