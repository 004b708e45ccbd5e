use Rattle.std.proofs.Common.{arith}
use Rattle.isolation.proofs.Common.{eqb-true}
use Rattle.isolation.proofs.alone.settles_in_one_sweep.Goals as goal

pub returns-in-Some : goal.returns-in-Some
returns-in-Some c one =
    let sweeps = c.in-Some.sweeps in
    grind (arith, eqb-true sweeps 1 one)
