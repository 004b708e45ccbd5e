use Rattle.bdd_store.proofs.Common.{AreMoved}
use Rattle.bdd_store.proofs.sweep.fill.Given as goal

abbrev pub invariant-loop-position : goal.invariant-loop-position
invariant-loop-position l = record {
  moved : AreMoved l.entries l.marks l.places l.table.keys l.position;
}
