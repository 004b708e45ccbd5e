use Rattle.miters.proofs.Common.{appended_then, appended_cut}
use Rattle.miters.proofs.text.put_differing.Goals as goal

pub returns-in_err-put_two : goal.returns-in_err-put_two
returns-in_err-put_two g c = rw (← c.bytes.ensures) (appended_cut _ _ _ _ _ c.in_err-put_two.ensures c.from_residual.ensures.0)

pub returns : goal.returns
returns g c = rw (← c.bytes.ensures) (appended_then _ _ _ _ _ _ _ _ _ _ c.in_ok-put_two.ensures c.put_vector.ensures)
