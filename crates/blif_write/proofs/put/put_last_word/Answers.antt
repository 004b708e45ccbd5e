use Rattle.blif_write.proofs.Common.{appended_then, appended_cut}
use Rattle.blif_write.proofs.put.put_last_word.Goals as goal

pub returns-in_err-put_word : goal.returns-in_err-put_word
returns-in_err-put_word g c = appended_cut _ _ _ _ _ c.in_err-put_word.ensures c.from_residual.ensures.0

pub returns : goal.returns
returns g c = appended_then _ _ _ _ _ _ _ _ _ _ c.in_ok-put_word.ensures c.put_end.ensures
