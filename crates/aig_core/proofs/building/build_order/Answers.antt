use Rattle.std.proofs.Common.{arith}
use Rattle.std.proofs.lemmas.Result.{IfOk-weaker}
use Rattle.aig_core.proofs.Common.{postorder}
use Rattle.aig_core.proofs.OrderLemmas.{gate_ranks}
use Rattle.aig_core.proofs.BuildingLemmas.{needed_in_graph, build_order_within}
use Rattle.aig_core.proofs.building.build_order.Goals as goal

pub postorder-requires-clause-ranks : goal.postorder-requires-clause-ranks
postorder-requires-clause-ranks c = grind (arith, gate_ranks c.args.net.now c.args.order.now c.in_ok-graph.ensures.valid c.requires.order)

pub postorder-requires-clause-needed : goal.postorder-requires-clause-needed
postorder-requires-clause-needed c = grind (arith, needed_in_graph c.args.net.now c.in_ok-graph.ensures.valid)

pub returns-clause-within : goal.returns-clause-within
returns-clause-within c =
    let net = c.args.net.now in
    grind (arith, IfOk-weaker c.postorder.result, build_order_within net c.args.order.now c.in_ok-graph.ensures.valid c.requires.order)
