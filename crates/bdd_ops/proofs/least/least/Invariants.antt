use Rattle.bdd_store.specs.Arena.{index}
use Rattle.bdd_ops.proofs.LeastLemmas.{IsOnWay}
use Rattle.bdd_ops.proofs.least.least.Given as goal

abbrev pub invariant-loop-no : goal.invariant-loop-no
invariant-loop-no l = record {
  way : IsOnWay l.store l.fn.n l.at l.out;
}

abbrev pub decreases-loop-no : goal.decreases-loop-no
decreases-loop-no l = index l.at
