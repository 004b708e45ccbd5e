use Rattle.std.proofs.Common.{arith}
use Rattle.cyc_io.proofs.TakenLemmas.{appended_then, appended_cut}
use Rattle.cyc_io.proofs.put.put_three.Goals as goal

pub returns-in_err-write_whole : goal.returns-in_err-write_whole
returns-in_err-write_whole g c = appended_cut _ _ _ _ _ c.in_err-write_whole.ensures c.from_residual.ensures.0

pub returns-in_err-write_whole-2 : goal.returns-in_err-write_whole-2
returns-in_err-write_whole-2 g c =
    appended_then _ _ _ _ _ _ _ _ _ _ c.in_ok-write_whole.ensures
    (appended_cut _ _ _ _ _ c.in_err-write_whole-2.ensures c.from_residual-in_err-write_whole-2.ensures.0)

pub returns : goal.returns
returns g c =
    grind (arith, appended_then _ _ _ _ _ _ _ _ _ _ c.in_ok-write_whole.ensures (appended_then _ _ _ _ _ _ _ _ _ _ c.in_ok-write_whole-2.ensures c.write_whole-3.ensures), appended_then _ _ _ _ _ _ _ _ _ _ c.in_ok-write_whole-2.ensures c.write_whole-3.ensures)
