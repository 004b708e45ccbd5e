use Rattle.explanations.specs.Search.{IsClosing}
use Rattle.explanations.proofs.cycles.closing_step.Given as goal

abbrev pub invariant-loop-node : goal.invariant-loop-node
invariant-loop-node l = IsClosing l.graph l.root l.steps l.node l.best
