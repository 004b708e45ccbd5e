use Rattle.aig_core.proofs.Common.{appended_then, appended_cut}
use Rattle.aig_core.proofs.symbols.put_names.Goals as goal

pub returns-in_err-put_input_names : goal.returns-in_err-put_input_names
returns-in_err-put_input_names g c = appended_cut _ _ _ _ _ c.in_err-put_input_names.ensures c.from_residual.ensures.0

pub returns-in_err-put_latch_names : goal.returns-in_err-put_latch_names
returns-in_err-put_latch_names g c = appended_then _ _ _ _ _ _ _ _ _ _ c.in_ok-put_input_names.ensures (appended_cut _ _ _ _ _ c.in_err-put_latch_names.ensures c.from_residual-in_err-put_latch_names.ensures.0)

pub returns : goal.returns
returns g c = appended_then _ _ _ _ _ _ _ _ _ _ c.in_ok-put_input_names.ensures (appended_then _ _ _ _ _ _ _ _ _ _ c.in_ok-put_latch_names.ensures c.put_output_names.ensures)
