use Rattle.explain_text.proofs.Common.{appended_then, appended_cut}
use Rattle.explain_text.proofs.explanation.put_values.Goals as goal

pub returns-in_err-write_whole : goal.returns-in_err-write_whole
returns-in_err-write_whole g c = appended_cut _ _ _ _ _ c.in_err-write_whole.ensures c.from_residual.ensures.0

pub returns-in_err-put_needed_columns : goal.returns-in_err-put_needed_columns
returns-in_err-put_needed_columns g c = appended_then _ _ _ _ _ _ _ _ _ _ c.in_ok-write_whole.ensures (appended_cut _ _ _ _ _ c.in_err-put_needed_columns.ensures c.from_residual-in_err-put_needed_columns.ensures.0)

pub returns : goal.returns
returns g c = appended_then _ _ _ _ _ _ _ _ _ _ c.in_ok-write_whole.ensures (appended_then _ _ _ _ _ _ _ _ _ _ c.in_ok-put_needed_columns.ensures c.write_whole-2.ensures)
