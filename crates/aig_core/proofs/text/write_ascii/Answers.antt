use Rattle.aig_core.proofs.Common.{appended_then, appended_cut}
use Rattle.aig_core.proofs.text.write_ascii.Goals as goal

pub returns-in_err-put_counts : goal.returns-in_err-put_counts
returns-in_err-put_counts g c = appended_cut _ _ _ _ _ c.in_err-put_counts.ensures c.from_residual.ensures.0

pub returns-in_err-put_inputs : goal.returns-in_err-put_inputs
returns-in_err-put_inputs g c = appended_then _ _ _ _ _ _ _ _ _ _ c.in_ok-put_counts.ensures (appended_cut _ _ _ _ _ c.in_err-put_inputs.ensures c.from_residual-in_err-put_inputs.ensures.0)

pub returns-in_err-put_latches : goal.returns-in_err-put_latches
returns-in_err-put_latches g c = appended_then _ _ _ _ _ _ _ _ _ _ c.in_ok-put_counts.ensures (appended_then _ _ _ _ _ _ _ _ _ _ c.in_ok-put_inputs.ensures (appended_cut _ _ _ _ _ c.in_err-put_latches.ensures c.from_residual-in_err-put_latches.ensures.0))

pub returns-in_err-put_outputs : goal.returns-in_err-put_outputs
returns-in_err-put_outputs g c = appended_then _ _ _ _ _ _ _ _ _ _ c.in_ok-put_counts.ensures (appended_then _ _ _ _ _ _ _ _ _ _ c.in_ok-put_inputs.ensures (appended_then _ _ _ _ _ _ _ _ _ _ c.in_ok-put_latches.ensures (appended_cut _ _ _ _ _ (rw c.items.ensures at c.in_err-put_outputs.ensures) c.from_residual-in_err-put_outputs.ensures.0)))

pub returns-in_err-put_ands : goal.returns-in_err-put_ands
returns-in_err-put_ands g c = appended_then _ _ _ _ _ _ _ _ _ _ c.in_ok-put_counts.ensures (appended_then _ _ _ _ _ _ _ _ _ _ c.in_ok-put_inputs.ensures (appended_then _ _ _ _ _ _ _ _ _ _ c.in_ok-put_latches.ensures (appended_then _ _ _ _ _ _ _ _ _ _ (rw c.items.ensures at c.in_ok-put_outputs.ensures) (appended_cut _ _ _ _ _ c.in_err-put_ands.ensures c.from_residual-in_err-put_ands.ensures.0))))

pub returns : goal.returns
returns g c = appended_then _ _ _ _ _ _ _ _ _ _ c.in_ok-put_counts.ensures (appended_then _ _ _ _ _ _ _ _ _ _ c.in_ok-put_inputs.ensures (appended_then _ _ _ _ _ _ _ _ _ _ c.in_ok-put_latches.ensures (appended_then _ _ _ _ _ _ _ _ _ _ (rw c.items.ensures at c.in_ok-put_outputs.ensures) (appended_then _ _ _ _ _ _ _ _ _ _ c.in_ok-put_ands.ensures c.put_names.ensures))))
