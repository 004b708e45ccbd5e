use Rattle.bdd_ops.specs.Possible.{AreFound}
use Rattle.bdd_ops.proofs.least_by.is_possible.Given as goal

abbrev pub invariant-loop-position : goal.invariant-loop-position
invariant-loop-position l = record {
  found : AreFound l.store l.columns l.first l.found l.position;
}
