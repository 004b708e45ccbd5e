use Rattle.bdd_store.specs.Arena.{IsNodeOf}
use Rattle.bdd_store.specs.Growth.{KeepsNodes}
use Rattle.unit_tests.proofs.diagrams.every_second.Given as goal

abbrev pub invariant-loop-k : goal.invariant-loop-k
invariant-loop-k l = record {
  keeps : KeepsNodes l.fn.d l.d;
  node : IsNodeOf l.d l.all;
}
