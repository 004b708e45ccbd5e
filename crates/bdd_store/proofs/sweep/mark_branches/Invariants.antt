use Rattle.bdd_store.proofs.MarkLemmas.{WaysAreMarked}
use Rattle.bdd_store.proofs.sweep.mark_branches.Given as goal

abbrev pub invariant-loop-position : goal.invariant-loop-position
invariant-loop-position l = record {
  ways : WaysAreMarked l.entries l.fn.marks l.marks l.position;
}
