use Rattle.bdd_ops.proofs.ReadLemmas.{AreMarkedDownTo}
use Rattle.bdd_ops.proofs.least_by.mark_read.Given as goal

abbrev pub invariant-loop-position : goal.invariant-loop-position
invariant-loop-position l = record {
  marked : AreMarkedDownTo l.store l.columns l.fn.n l.reached l.read l.position;
}
