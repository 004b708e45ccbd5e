use Rattle.explanations.specs.Search.{IsBest}
use Rattle.explanations.proofs.shortest.best_cycle.Given as goal

abbrev pub invariant-loop-root : goal.invariant-loop-root
invariant-loop-root l = IsBest l.graph l.reached l.root l.best
