-- The values of a tick have an entry for each signal.
use Rattle.std.proofs.Common.{◌+◌, ◌++◌, List, arith}
use Rattle.cyc_base.specs.declared.trit.Trit.{Trit}
use Rattle.simulation.proofs.LoadLemmas.{length-fix}
use Rattle.delay_core.proofs.whole.is_settled.Goals as goal

pub gates_stand_at-requires-clause-width : goal.gates_stand_at-requires-clause-width
gates_stand_at-requires-clause-width c =
    let net = c.args.net.now in
    let inputs : List Trit = c.split_at.result.0.now in
    let latches : List Trit = c.split_at.result.1.now in
    grind (arith, length-fix net (inputs ++ latches))
