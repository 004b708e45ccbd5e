use Rattle.components.specs.Search.{state_of, Advances, steps_left}
use Rattle.components.proofs.search.explore.Given as goal

abbrev pub invariant-loop-group : goal.invariant-loop-group
invariant-loop-group l = Advances l.graph (state_of l.initial.search) (state_of l.search)

abbrev pub decreases-loop-group : goal.decreases-loop-group
decreases-loop-group l = steps_left l.graph (state_of l.search)
