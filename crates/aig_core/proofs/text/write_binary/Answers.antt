use Rattle.aig_core.proofs.Common.{appended_then, appended_cut}
use Rattle.aig_core.proofs.text.write_binary.Goals as goal

pub returns-in_err-put_counts : goal.returns-in_err-put_counts
returns-in_err-put_counts g c = appended_cut _ _ _ _ _ c.in_err-put_counts.ensures c.from_residual.ensures.0

pub returns-in_err-put_loads : goal.returns-in_err-put_loads
returns-in_err-put_loads g c = appended_then _ _ _ _ _ _ _ _ _ _ c.in_ok-put_counts.ensures (appended_cut _ _ _ _ _ c.in_err-put_loads.ensures c.from_residual-in_err-put_loads.ensures.0)

pub returns-in_err-put_outputs : goal.returns-in_err-put_outputs
returns-in_err-put_outputs g c = appended_then _ _ _ _ _ _ _ _ _ _ c.in_ok-put_counts.ensures (appended_then _ _ _ _ _ _ _ _ _ _ c.in_ok-put_loads.ensures (appended_cut _ _ _ _ _ (rw c.items.ensures at c.in_err-put_outputs.ensures) c.from_residual-in_err-put_outputs.ensures.0))

pub returns-in_err-put_and_groups : goal.returns-in_err-put_and_groups
returns-in_err-put_and_groups g c = appended_then _ _ _ _ _ _ _ _ _ _ c.in_ok-put_counts.ensures (appended_then _ _ _ _ _ _ _ _ _ _ c.in_ok-put_loads.ensures (appended_then _ _ _ _ _ _ _ _ _ _ (rw c.items.ensures at c.in_ok-put_outputs.ensures) (appended_cut _ _ _ _ _ c.in_err-put_and_groups.ensures c.from_residual-in_err-put_and_groups.ensures.0)))

pub returns : goal.returns
returns g c = appended_then _ _ _ _ _ _ _ _ _ _ c.in_ok-put_counts.ensures (appended_then _ _ _ _ _ _ _ _ _ _ c.in_ok-put_loads.ensures (appended_then _ _ _ _ _ _ _ _ _ _ (rw c.items.ensures at c.in_ok-put_outputs.ensures) (appended_then _ _ _ _ _ _ _ _ _ _ c.in_ok-put_and_groups.ensures c.put_names.ensures)))
