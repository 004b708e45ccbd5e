use Rattle.components.specs.Search.{state_of, HasExplored}
use Rattle.components.proofs.search.close_all.Given as goal

abbrev pub invariant-loop-node : goal.invariant-loop-node
invariant-loop-node l = HasExplored l.graph (state_of l.search) l.node
