use Rattle.std.proofs.Common.{arith}
use Rattle.aig_core.proofs.Common.{appended_then, appended_cut}
use Rattle.aig_core.proofs.lines.put_line.Goals as goal

pub returns-in_err-put_number : goal.returns-in_err-put_number
returns-in_err-put_number g c = appended_cut _ _ _ _ _ c.in_err-put_number.ensures c.from_residual.ensures.0

pub returns-in_err-put_next_numbers : goal.returns-in_err-put_next_numbers
returns-in_err-put_next_numbers g c =
    appended_then _ _ _ _ _ _ _ _ _ _ c.in_ok-put_number.ensures
    (appended_cut _ _ _ _ _ c.in_err-put_next_numbers.ensures c.from_residual-in_err-put_next_numbers.ensures.0)

pub returns : goal.returns
returns g c =
    grind (arith, appended_then _ _ _ _ _ _ _ _ _ _ c.in_ok-put_number.ensures (appended_then _ _ _ _ _ _ _ _ _ _ c.in_ok-put_next_numbers.ensures c.write_whole.ensures), appended_then _ _ _ _ _ _ _ _ _ _ c.in_ok-put_next_numbers.ensures c.write_whole.ensures)
