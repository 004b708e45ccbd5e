use Rattle.report.proofs.Common.{appended_then, appended_cut}
use Rattle.report.proofs.verdict.put_leaves.Goals as goal

pub returns-in_err-write_whole : goal.returns-in_err-write_whole
returns-in_err-write_whole g c = appended_cut _ _ _ _ _ c.in_err-write_whole.ensures c.from_residual.ensures.0

pub returns-in_err-put_columns : goal.returns-in_err-put_columns
returns-in_err-put_columns g c = appended_then _ _ _ _ _ _ _ _ _ _ c.in_ok-write_whole.ensures (appended_cut _ _ _ _ _ c.in_err-put_columns.ensures c.from_residual-in_err-put_columns.ensures.0)

pub returns-in_err-write_whole-2 : goal.returns-in_err-write_whole-2
returns-in_err-write_whole-2 g c = appended_then _ _ _ _ _ _ _ _ _ _ c.in_ok-write_whole.ensures (appended_then _ _ _ _ _ _ _ _ _ _ c.in_ok-put_columns.ensures (appended_cut _ _ _ _ _ c.in_err-write_whole-2.ensures c.from_residual-in_err-write_whole-2.ensures.0))

pub returns : goal.returns
returns g c = rw (← c.inputs-latches.ensures.inputs) (appended_then _ _ _ _ _ _ _ _ _ _ c.in_ok-write_whole.ensures (appended_then _ _ _ _ _ _ _ _ _ _ c.in_ok-put_columns.ensures (appended_then _ _ _ _ _ _ _ _ _ _ c.in_ok-write_whole-2.ensures c.put_last_columns.ensures)))
