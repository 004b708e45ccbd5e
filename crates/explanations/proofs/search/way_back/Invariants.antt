use Rattle.explanations.specs.Search.{IsGoingBack, depth_of, step_at}
use Rattle.explanations.proofs.search.way_back.Given as goal

abbrev pub invariant-loop-from : goal.invariant-loop-from
invariant-loop-from l = IsGoingBack l.steps l.node l.at l.way.items

abbrev pub decreases-loop-from : goal.decreases-loop-from
decreases-loop-from l = depth_of (step_at l.steps l.at)
