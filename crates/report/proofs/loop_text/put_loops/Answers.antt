use Rattle.std.proofs.Common.{arith}
use Rattle.report.proofs.Common.{appended_then, appended_cut}
use Rattle.report.proofs.loop_text.put_loops.Goals as goal

pub returns-in_err-put_numbered : goal.returns-in_err-put_numbered
returns-in_err-put_numbered g c = rw (← c.count.ensures) (appended_cut _ _ _ _ _ c.in_err-put_numbered.ensures c.from_residual.ensures.0)

pub returns-in_err-write_whole : goal.returns-in_err-write_whole
returns-in_err-write_whole g c =
    rw (← c.count.ensures)
    (appended_then _ _ _ _ _ _ _ _ _ _ c.in_ok-put_numbered.ensures (appended_cut _ _ _ _ _ c.in_err-write_whole.ensures c.from_residual-in_err-write_whole.ensures.0))

pub returns : goal.returns
returns g c =
    grind (arith, appended_then _ _ _ _ _ _ _ _ _ _ c.in_ok-put_numbered.ensures (appended_then _ _ _ _ _ _ _ _ _ _ c.in_ok-write_whole.ensures c.put_each_loop.ensures), appended_then _ _ _ _ _ _ _ _ _ _ c.in_ok-write_whole.ensures c.put_each_loop.ensures)
