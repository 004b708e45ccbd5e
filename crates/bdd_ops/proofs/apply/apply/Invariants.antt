use Rattle.std.proofs.Common.{◌≡◌, reverse}
use Rattle.bdd_store.specs.Growth.{KeepsNodes, NewAreParts}
use Rattle.bdd_ops.specs.Apply.{value, AreComputed}
use Rattle.bdd_ops.specs.Steps.{steps_left}
use Rattle.bdd_ops.specs.Turns.{IsTurn}
use Rattle.bdd_ops.proofs.apply.apply.Given as goal

abbrev pub invariant-loop-turn : goal.invariant-loop-turn
invariant-loop-turn l = record {
  keeps : KeepsNodes l.fn.store l.store;
  answers : l.store.answers ≡ l.fn.store.answers;
  computed : AreComputed l.store l.computed;
  parts : NewAreParts l.fn.store l.store (value l.operation l.fn.store l.fn.root);
  turn : IsTurn l.operation l.store l.fn.root (reverse l.waiting.items) l.turn;
}

abbrev pub decreases-loop-turn : goal.decreases-loop-turn
decreases-loop-turn l = steps_left l.store.vars (reverse l.waiting.items) l.turn
