use Rattle.blif_write.proofs.Common.{appended_then, appended_cut}
use Rattle.blif_write.proofs.gates.put_lits_and_plane.Goals as goal

pub returns-in_err-put_lits : goal.returns-in_err-put_lits
returns-in_err-put_lits g c = appended_cut _ _ _ _ _ c.in_err-put_lits.ensures c.from_residual.ensures.0

pub returns : goal.returns
returns g c = rw (← c.row_end.ensures) (appended_then _ _ _ _ _ _ _ _ _ _ c.in_ok-put_lits.ensures c.write_whole.ensures)
