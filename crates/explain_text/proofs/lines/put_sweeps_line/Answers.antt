use Rattle.explain_text.proofs.Common.{appended_then, appended_cut}
use Rattle.explain_text.proofs.lines.put_sweeps_line.Goals as goal

pub returns-in_err-put_numbered : goal.returns-in_err-put_numbered
returns-in_err-put_numbered g c = appended_cut _ _ _ _ _ c.in_err-put_numbered.ensures c.from_residual.ensures.0

pub returns-in_err-put_numbered-2 : goal.returns-in_err-put_numbered-2
returns-in_err-put_numbered-2 g c = appended_then _ _ _ _ _ _ _ _ _ _ c.in_ok-put_numbered.ensures (appended_cut _ _ _ _ _ c.in_err-put_numbered-2.ensures c.from_residual-in_err-put_numbered-2.ensures.0)

pub returns : goal.returns
returns g c = appended_then _ _ _ _ _ _ _ _ _ _ c.in_ok-put_numbered.ensures (appended_then _ _ _ _ _ _ _ _ _ _ c.in_ok-put_numbered-2.ensures c.write_whole.ensures)
