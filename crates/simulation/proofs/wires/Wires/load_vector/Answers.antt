-- The inputs are loaded first, and the latches after them.
use Rattle.std.proofs.Common.{arith}
use Rattle.simulation.proofs.LoadLemmas.{vector_loaded}
use Rattle.simulation.proofs.wires.Wires.load_vector.Goals as goal

pub returns-clause-vector : goal.returns-clause-vector
returns-clause-vector c =
    let net = c.args.net.now in
    let inputs = c.args.inputs.now in
    let latches = c.args.latches.now in
    let between = c.load.new.self.values.items in
    let after = c.load-2.new.self.values.items in
    grind (arith, vector_loaded net inputs latches c.args.self.now.values.items between after c.load-2.ensures.kept.width c.requires.inputs c.requires.latches c.load.ensures.given)
