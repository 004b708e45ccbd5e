use Rattle.explain_text.proofs.Common.{appended_then, appended_cut}
use Rattle.explain_text.proofs.explanation.put_explanation.Goals as goal

pub returns-in_err-put_cycle : goal.returns-in_err-put_cycle
returns-in_err-put_cycle g c = appended_cut _ _ _ _ _ c.in_err-put_cycle.ensures c.from_residual.ensures.0

pub returns : goal.returns
returns g c = rw (← c.items.ensures, ← c.items-2.ensures) (appended_then _ _ _ _ _ _ _ _ _ _ c.in_ok-put_cycle.ensures c.put_way.ensures)
