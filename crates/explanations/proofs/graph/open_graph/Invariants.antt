use Rattle.explanations.specs.Graph.{IsOpenGraph}
use Rattle.explanations.proofs.graph.open_graph.Given as goal

abbrev pub invariant-loop-gate : goal.invariant-loop-gate
invariant-loop-gate l = IsOpenGraph l.net l.known l.gate l.graph
