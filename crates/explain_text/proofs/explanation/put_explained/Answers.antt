use Rattle.explain_text.proofs.Common.{appended_then, appended_cut}
use Rattle.explain_text.proofs.explanation.put_explained.Goals as goal

pub returns-in_err-put_refusal : goal.returns-in_err-put_refusal
returns-in_err-put_refusal g c = appended_cut _ _ _ _ _ c.in_err-put_refusal.ensures c.from_residual.ensures.0

pub returns : goal.returns
returns g c = appended_then _ _ _ _ _ _ _ _ _ _ c.in_ok-put_refusal.ensures c.put_explanation.ensures
