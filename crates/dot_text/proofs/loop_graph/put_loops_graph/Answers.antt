use Rattle.dot_text.proofs.Common.{appended_cut, appended_then}
use Rattle.dot_text.proofs.loop_graph.put_loops_graph.Goals as goal

pub returns-in_err-write_whole : goal.returns-in_err-write_whole
returns-in_err-write_whole g c = appended_cut _ _ _ _ _ c.in_err-write_whole.ensures c.from_residual.ensures.0

pub returns-in_err-put_clusters : goal.returns-in_err-put_clusters
returns-in_err-put_clusters g c = appended_then _ _ _ _ _ _ _ _ _ _ c.in_ok-write_whole.ensures (appended_cut _ _ _ _ _ c.in_err-put_clusters.ensures c.from_residual-in_err-put_clusters.ensures.0)

pub returns : goal.returns
returns g c = appended_then _ _ _ _ _ _ _ _ _ _ c.in_ok-write_whole.ensures (appended_then _ _ _ _ _ _ _ _ _ _ c.in_ok-put_clusters.ensures c.write_whole-2.ensures)
