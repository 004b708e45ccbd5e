use Rattle.explain_text.proofs.Common.{appended_then, appended_cut}
use Rattle.explain_text.proofs.explanation.put_way_lines.Goals as goal

pub returns-in_err-put_gates : goal.returns-in_err-put_gates
returns-in_err-put_gates g c = appended_cut _ _ _ _ _ c.in_err-put_gates.ensures c.from_residual.ensures.0

pub returns : goal.returns
returns g c = appended_then _ _ _ _ _ _ _ _ _ _ c.in_ok-put_gates.ensures c.put_values.ensures
