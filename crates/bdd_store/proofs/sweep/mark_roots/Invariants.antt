use Rattle.std.proofs.Common.{◌≡◌, length}
use Rattle.bdd_store.proofs.MarkLemmas.{RootsAreMarked}
use Rattle.bdd_store.proofs.sweep.mark_roots.Given as goal

abbrev pub invariant-loop-root : goal.invariant-loop-root
invariant-loop-root l = record {
  can_next : (goal.iterator-loop-root).can_next l.root-iterator;
  is_finite : (goal.iterator-loop-root).is_finite l.root-iterator;
  long : length l.marks ≡ length l.fn.marks;
  roots : RootsAreMarked l.roots.slots l.root-iterator l.fn.marks l.marks;
}
