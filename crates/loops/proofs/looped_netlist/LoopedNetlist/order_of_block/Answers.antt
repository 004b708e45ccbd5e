use Rattle.std.proofs.Common.{◌≡◌, arith}
use Rattle.loops.proofs.Common.{block_at}
use Rattle.loops.proofs.OrderLemmas.{block_gates, gates_rise, gates_within, homes_differ, order_is}
use Rattle.loops.proofs.looped_netlist.LoopedNetlist.order_of_block.Goals as goal
use Rattle.loops.proofs.looped_netlist.LoopedNetlist.order_of_block.Goals.{After-items-gates}

gates_are : (c : After-items-gates) → c.items-gates.result.now ≡ (block_at c.args.self.now.blocks c.args.place).gates
gates_are c = grind (arith, block_gates)

pub uncut_reads-requires-clause-rise : goal.uncut_reads-requires-clause-rise
uncut_reads-requires-clause-rise c =
    grind (arith, gates_rise c.args.self.now.net c.args.self.now.blocks c.blocks-blocks.ensures.looped.blocks c.args.place c.requires c.items-gates.result.now (gates_are (goal.at.uncut_reads-requires-clause-rise c).After-items-gates), gates_are (goal.at.uncut_reads-requires-clause-rise c).After-items-gates)

pub uncut_reads-requires-clause-gates : goal.uncut_reads-requires-clause-gates
uncut_reads-requires-clause-gates c = grind (arith, gates_within, gates_are)

pub placed-requires-clause-differ : goal.placed-requires-clause-differ
placed-requires-clause-differ c =
    rw c.items-2.ensures
    (homes_differ c.args.self.now.net c.args.self.now.blocks c.blocks-blocks.ensures.looped.blocks c.args.place c.requires c.items-gates.result.now (gates_are (goal.at.placed-requires-clause-differ c).After-items-gates)
    c.args.self.now.cut c.blocks-blocks.ensures.looped.cut c.in_ok-graph.graph c.in_ok-graph.ensures c.in_ok-components.components c.in_ok-components.ensures)

pub returns : goal.returns
returns c =
    order_is c.args.self.now.net c.args.self.now.blocks c.blocks-blocks.ensures.looped.blocks c.args.place c.requires c.items-gates.result.now (gates_are (goal.at.returns c).After-items-gates)
    c.args.self.now.cut c.blocks-blocks.ensures.looped.cut c.in_ok-graph.graph c.in_ok-graph.ensures c.in_ok-components.components c.in_ok-components.ensures c.in_ok-order.order.items (rw c.items-2.ensures at c.in_ok-order.ensures)
