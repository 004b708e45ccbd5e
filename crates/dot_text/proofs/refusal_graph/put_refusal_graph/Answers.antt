use Rattle.dot_text.proofs.Common.{appended_then, appended_cut}
use Rattle.dot_text.proofs.refusal_graph.put_refusal_graph.Goals as goal

pub returns-in_err-open_refusal_graph : goal.returns-in_err-open_refusal_graph
returns-in_err-open_refusal_graph g c = appended_cut _ _ _ _ _ c.in_err-open_refusal_graph.ensures c.from_residual.ensures.0

pub returns : goal.returns
returns g c = appended_then _ _ _ _ _ _ _ _ _ _ c.in_ok-open_refusal_graph.ensures c.write_whole.ensures
