use Rattle.report.proofs.Common.{appended_then, appended_cut}
use Rattle.report.proofs.fault.put_file_fault.Goals as goal

pub returns-in_err-write_whole : goal.returns-in_err-write_whole
returns-in_err-write_whole g c = rw (← c.bytes.ensures) (appended_cut _ _ _ _ _ c.in_err-write_whole.ensures c.from_residual.ensures.0)

pub returns-in_err-put_line : goal.returns-in_err-put_line
returns-in_err-put_line g c =
    rw (← c.bytes.ensures)
    (appended_then _ _ _ _ _ _ _ _ _ _ c.in_ok-write_whole.ensures (appended_cut _ _ _ _ _ c.in_err-put_line.ensures c.from_residual-in_err-put_line.ensures.0))

pub returns-in_err-put_code : goal.returns-in_err-put_code
returns-in_err-put_code g c =
    rw (← c.bytes.ensures)
    (appended_then _ _ _ _ _ _ _ _ _ _ c.in_ok-write_whole.ensures (appended_then _ _ _ _ _ _ _ _ _ _ c.in_ok-put_line.ensures (appended_cut _ _ _ _ _ c.in_err-put_code.ensures c.from_residual-in_err-put_code.ensures.0)))

pub returns : goal.returns
returns g c =
    rw (← c.bytes.ensures)
    (appended_then _ _ _ _ _ _ _ _ _ _ c.in_ok-write_whole.ensures (appended_then _ _ _ _ _ _ _ _ _ _ c.in_ok-put_line.ensures (appended_then _ _ _ _ _ _ _ _ _ _ c.in_ok-put_code.ensures c.put_tail.ensures)))
