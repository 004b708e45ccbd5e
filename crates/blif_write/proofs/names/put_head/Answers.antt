use Rattle.blif_write.proofs.Common.{appended_then, appended_cut}
use Rattle.blif_write.proofs.names.put_head.Goals as goal

pub returns-in_err-put_model : goal.returns-in_err-put_model
returns-in_err-put_model g c = appended_cut _ _ _ _ _ c.in_err-put_model.ensures c.from_residual.ensures.0

pub returns-in_err-put_inputs : goal.returns-in_err-put_inputs
returns-in_err-put_inputs g c = appended_then _ _ _ _ _ _ _ _ _ _ c.in_ok-put_model.ensures (appended_cut _ _ _ _ _ c.in_err-put_inputs.ensures c.from_residual-in_err-put_inputs.ensures.0)

pub returns-in_err-put_outputs : goal.returns-in_err-put_outputs
returns-in_err-put_outputs g c = appended_then _ _ _ _ _ _ _ _ _ _ c.in_ok-put_model.ensures (appended_then _ _ _ _ _ _ _ _ _ _ c.in_ok-put_inputs.ensures (appended_cut _ _ _ _ _ c.in_err-put_outputs.ensures c.from_residual-in_err-put_outputs.ensures.0))

pub returns : goal.returns
returns g c = appended_then _ _ _ _ _ _ _ _ _ _ c.in_ok-put_model.ensures (appended_then _ _ _ _ _ _ _ _ _ _ c.in_ok-put_inputs.ensures (appended_then _ _ _ _ _ _ _ _ _ _ c.in_ok-put_outputs.ensures c.put_clock.ensures))
