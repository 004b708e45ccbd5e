use Rattle.std.proofs.Common.{arith}
use Rattle.dot_text.proofs.explanation_graph.tell_explanation_graph.Goals as goal

pub returns : goal.returns
returns c = grind arith
