use Rattle.dot_text.proofs.Common.{appended_then, appended_cut}
use Rattle.dot_text.proofs.cut_graph.put_cut_cluster.Goals as goal

pub returns-in_err-open_cluster : goal.returns-in_err-open_cluster
returns-in_err-open_cluster g c = appended_cut _ _ _ _ _ c.in_err-open_cluster.ensures c.from_residual.ensures.0

pub returns : goal.returns
returns g c = appended_then _ _ _ _ _ _ _ _ _ _ c.in_ok-open_cluster.ensures c.put_body.ensures
