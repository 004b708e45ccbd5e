use Rattle.std.proofs.Common.{◌≡◌}
use Rattle.bdd_store.proofs.Common.{index, den, IsNodeOf}
use Rattle.bdd_store.proofs.store.Store.value.Given as goal

abbrev pub invariant-loop-at : goal.invariant-loop-at
invariant-loop-at l = record {
  node : IsNodeOf l.self l.at;
  same : den l.self l.at l.bits ≡ den l.self l.fn.n l.bits;
}

abbrev pub decreases-loop-at : goal.decreases-loop-at
decreases-loop-at l = index l.at
