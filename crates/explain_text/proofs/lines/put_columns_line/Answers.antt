use Rattle.explain_text.proofs.Common.{appended_then, appended_cut}
use Rattle.explain_text.proofs.lines.put_columns_line.Goals as goal

pub returns-in_err-put_numbered : goal.returns-in_err-put_numbered
returns-in_err-put_numbered g c = appended_cut _ _ _ _ _ c.in_err-put_numbered.ensures c.from_residual.ensures.0

pub returns-in_err-write_whole : goal.returns-in_err-write_whole
returns-in_err-write_whole g c = appended_then _ _ _ _ _ _ _ _ _ _ c.in_ok-put_numbered.ensures (appended_cut _ _ _ _ _ c.in_err-write_whole.ensures c.from_residual-in_err-write_whole.ensures.0)

pub returns-in_err-put_columns : goal.returns-in_err-put_columns
returns-in_err-put_columns g c = appended_then _ _ _ _ _ _ _ _ _ _ c.in_ok-put_numbered.ensures (appended_then _ _ _ _ _ _ _ _ _ _ c.in_ok-write_whole.ensures (appended_cut _ _ _ _ _ c.in_err-put_columns.ensures c.from_residual-in_err-put_columns.ensures.0))

pub returns : goal.returns
returns g c = appended_then _ _ _ _ _ _ _ _ _ _ c.in_ok-put_numbered.ensures (appended_then _ _ _ _ _ _ _ _ _ _ c.in_ok-write_whole.ensures (appended_then _ _ _ _ _ _ _ _ _ _ c.in_ok-put_columns.ensures c.write_whole-2.ensures))
