use Rattle.explanations.specs.Search.{IsNextLevel}
use Rattle.explanations.proofs.search.next_level.Given as goal

abbrev pub invariant-loop-node : goal.invariant-loop-node
invariant-loop-node l = IsNextLevel l.graph l.level l.node-index l.depth l.initial.steps l.steps l.next.items
