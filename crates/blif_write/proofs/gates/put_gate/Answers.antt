use Rattle.blif_write.proofs.Common.{appended_then, appended_cut}
use Rattle.blif_write.proofs.gates.put_gate.Goals as goal

pub returns-in_err-put_gate_names-clause-text : goal.returns-in_err-put_gate_names-clause-text
returns-in_err-put_gate_names-clause-text g c = appended_cut _ _ _ _ _ c.in_err-put_gate_names.ensures c.from_residual.ensures.0

pub returns-clause-text : goal.returns-clause-text
returns-clause-text g c = rw (← c.plane.ensures.plane, ← c.rows.ensures.rows) (appended_then _ _ _ _ _ _ _ _ _ _ c.in_ok-put_gate_names.ensures c.put_rows.ensures)
