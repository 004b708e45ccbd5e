use Rattle.std.proofs.Common.{arith}
use Rattle.cyc_base.specs.Values.{bits}
use Rattle.netlist.specs.Fixpoint.{fix}
use Rattle.explanations.proofs.GraphLemmas.{all_first, stands_open}
use Rattle.explanations.proofs.explanation.explanation_of_cycle.Goals as goal

pub sides-requires-clause-cycle : goal.sides-requires-clause-cycle
sides-requires-clause-cycle c =
    let net = c.args.net.now in
    let v = c.args.vector.now in
    grind (arith, stands_open net v c.args.found.cycle c.requires.width (all_first net (fix net (bits v)) c.args.found.cycle c.args.found.way c.requires.gates))

pub needs-requires-clause-gates : goal.needs-requires-clause-gates
needs-requires-clause-gates c =
    let net = c.args.net.now in
    let v = c.args.vector.now in
    grind (arith, all_first net (fix net (bits v)) c.args.found.cycle c.args.found.way c.requires.gates)

pub further-requires-clause-gates : goal.further-requires-clause-gates
further-requires-clause-gates c = grind arith

pub further-requires-clause-needs : goal.further-requires-clause-needs
further-requires-clause-needs c = grind arith

pub returns : goal.returns
returns c = grind arith
