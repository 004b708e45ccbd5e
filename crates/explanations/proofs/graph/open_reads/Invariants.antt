use Rattle.explanations.specs.Graph.{HasOpenReads}
use Rattle.explanations.proofs.graph.open_reads.Given as goal

abbrev pub invariant-loop-pin : goal.invariant-loop-pin
invariant-loop-pin l = HasOpenReads l.first l.known l.gate l.pin l.reads.items
