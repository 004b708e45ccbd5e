use Rattle.report.proofs.Common.{appended_then, appended_cut}
use Rattle.report.proofs.verdict.put_accepted.Goals as goal

pub returns-in_err-put_numbered : goal.returns-in_err-put_numbered
returns-in_err-put_numbered g c = rw (← c.gates.ensures.gates) (appended_cut _ _ _ _ _ c.in_err-put_numbered.ensures c.from_residual.ensures.0)

pub returns-in_err-put_numbered-2 : goal.returns-in_err-put_numbered-2
returns-in_err-put_numbered-2 g c = rw (← c.gates.ensures.gates) (appended_then _ _ _ _ _ _ _ _ _ _ c.in_ok-put_numbered.ensures (appended_cut _ _ _ _ _ c.in_err-put_numbered-2.ensures c.from_residual-in_err-put_numbered-2.ensures.0))

pub returns-in_err-put_numbered-3 : goal.returns-in_err-put_numbered-3
returns-in_err-put_numbered-3 g c = rw (← c.gates.ensures.gates, ← c.latches.ensures.latches) (appended_then _ _ _ _ _ _ _ _ _ _ c.in_ok-put_numbered.ensures (appended_then _ _ _ _ _ _ _ _ _ _ c.in_ok-put_numbered-2.ensures (appended_cut _ _ _ _ _ c.in_err-put_numbered-3.ensures c.from_residual-in_err-put_numbered-3.ensures.0)))

pub returns : goal.returns
returns g c = rw (← c.gates.ensures.gates, ← c.latches.ensures.latches) (appended_then _ _ _ _ _ _ _ _ _ _ c.in_ok-put_numbered.ensures (appended_then _ _ _ _ _ _ _ _ _ _ c.in_ok-put_numbered-2.ensures (appended_then _ _ _ _ _ _ _ _ _ _ c.in_ok-put_numbered-3.ensures c.put_open.ensures)))
