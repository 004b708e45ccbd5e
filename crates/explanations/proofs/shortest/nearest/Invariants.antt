use Rattle.explanations.specs.Search.{IsNearestOf}
use Rattle.explanations.proofs.shortest.nearest.Given as goal

abbrev pub invariant-loop-node : goal.invariant-loop-node
invariant-loop-node l = IsNearestOf l.reached l.nodes l.node-index l.best
