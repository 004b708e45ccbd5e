use Rattle.std.proofs.Common.{arith}
use Rattle.explanations.proofs.GraphLemmas.{open_graph_more}
use Rattle.explanations.proofs.graph.open_graph.Goals as goal

pub loop-gate-preserved : goal.loop-gate-preserved
loop-gate-preserved c = grind (arith, open_graph_more c.args.net.now c.args.known.now c.loop-gate.gate c.loop-gate.graph c.in_ok-reads.reads.items c.loop-gate.invariant c.in_ok-reads.ensures)
