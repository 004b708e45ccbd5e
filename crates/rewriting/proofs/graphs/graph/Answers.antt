use Rattle.std.proofs.Common.{arith}
use Rattle.rewriting.proofs.GraphLemmas.{is_graph_in}
use Rattle.rewriting.proofs.graphs.graph.Goals as goal

pub returns-clause-graphing : goal.returns-clause-graphing
returns-clause-graphing c net care what valid accepts form = grind (arith, is_graph_in net care what c.args.other.now c.in-Some.graph valid accepts form)
