use Rattle.miters.proofs.Common.{appended_then, appended_cut}
use Rattle.miters.proofs.text.put_refused.Goals as goal

pub returns-in_err-write_whole : goal.returns-in_err-write_whole
returns-in_err-write_whole g c = appended_cut _ _ _ _ _ c.in_err-write_whole.ensures c.from_residual.ensures.0

pub returns : goal.returns
returns g c = appended_then _ _ _ _ _ _ _ _ _ _ c.in_ok-write_whole.ensures c.put_refusal.ensures
