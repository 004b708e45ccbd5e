-- All blocks are settled, and so is the vector.
use Rattle.std.proofs.Common.{arith}
use Rattle.simulation.proofs.LoadLemmas.{all_settled}
use Rattle.simulation.proofs.wires.Wires.settle.Goals as goal

pub returns-clause-settled : goal.returns-clause-settled
returns-clause-settled c =
    let net = c.args.net.now in
    let blocks = c.args.plan.now.blocks in
    let values = c.loop-place.self.values.items in
    grind (arith, all_settled net blocks c.requires.plan.blocks values c.loop-place.invariant.kept.width)
