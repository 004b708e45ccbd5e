use Rattle.dot_text.proofs.Common.{appended_then, appended_cut}
use Rattle.dot_text.proofs.cut_graph.put_between.Goals as goal

pub returns-in_err-put_numbered : goal.returns-in_err-put_numbered
returns-in_err-put_numbered g c = appended_cut _ _ _ _ _ c.in_err-put_numbered.ensures c.from_residual.ensures.0

pub returns : goal.returns
returns g c = appended_then _ _ _ _ _ _ _ _ _ _ c.in_ok-put_numbered.ensures c.put_number_between.ensures
