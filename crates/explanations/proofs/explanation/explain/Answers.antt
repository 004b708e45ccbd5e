use Rattle.std.proofs.Common.{arith}
use Rattle.cyc_base.specs.Values.{bits}
use Rattle.netlist.specs.Fixpoint.{fix}
use Rattle.explanations.proofs.EndlessLemmas.{unknown_reaches}
use Rattle.explanations.proofs.GraphLemmas.{explained, fix_size, found_unknown}
use Rattle.explanations.proofs.explanation.explain.Goals as goal

pub explanation_of_cycle-requires-clause-gates : goal.explanation_of_cycle-requires-clause-gates
explanation_of_cycle-requires-clause-gates c =
    let net = c.args.net.now in
    let v = c.args.vector.now in
    grind (arith, found_unknown net (fix net (bits v)) c.in_ok-graph.graph c.args.gate c.in-Some.found)

pub explanation_of_cycle-requires-clause-size : goal.explanation_of_cycle-requires-clause-size
explanation_of_cycle-requires-clause-size c = grind (arith, fix_size c.args.net.now c.args.vector.now c.requires.width)

pub returns-in-Some-clause-found : goal.returns-in-Some-clause-found
returns-in-Some-clause-found c =
    let net = c.args.net.now in
    let v = c.args.vector.now in
    grind (arith, explained net v c.in_ok-graph.graph c.args.gate c.in-Some.found)

pub returns-clause-none : goal.returns-clause-none
returns-clause-none c = grind (arith, unknown_reaches)

pub open_graph-requires : goal.open_graph-requires
open_graph-requires c = grind (arith, fix_size c.args.net.now c.args.vector.now c.requires.width)
