use Rattle.dot_text.proofs.Common.{appended_then, appended_cut}
use Rattle.dot_text.proofs.explanation_graph.put_named.Goals as goal

pub returns-in_err-put_quoted : goal.returns-in_err-put_quoted
returns-in_err-put_quoted g c = rw (← c.bytes.ensures) (appended_cut _ _ _ _ _ c.in_err-put_quoted.ensures c.from_residual.ensures.0)

pub returns : goal.returns
returns g c = rw (← c.bytes.ensures) (appended_then _ _ _ _ _ _ _ _ _ _ c.in_ok-put_quoted.ensures c.write_whole.ensures)
