use Rattle.bdd_store.proofs.RootLemmas.{AreMovedBelow}
use Rattle.bdd_store.proofs.sweep.renumber.Given as goal

abbrev pub invariant-loop-key : goal.invariant-loop-key
invariant-loop-key l = record {
  roots : AreMovedBelow l.places l.fn.roots.slots l.roots.slots l.key;
}
