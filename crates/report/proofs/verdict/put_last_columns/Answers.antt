use Rattle.report.proofs.Common.{appended_then, appended_cut}
use Rattle.report.proofs.verdict.put_last_columns.Goals as goal

pub returns-in_err-put_columns : goal.returns-in_err-put_columns
returns-in_err-put_columns g c = appended_cut _ _ _ _ _ c.in_err-put_columns.ensures c.from_residual.ensures.0

pub returns : goal.returns
returns g c = appended_then _ _ _ _ _ _ _ _ _ _ c.in_ok-put_columns.ensures c.write_whole.ensures
