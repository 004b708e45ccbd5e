use Rattle.std.proofs.Common.{refl, arith}
use Rattle.loops.proofs.OrderLemmas.{at_least_place, reads_more}
use Rattle.loops.proofs.orders.uncut_reads.Goals as goal

pub add_node-requires : goal.add_node-requires
add_node-requires c = grind (arith, at_least_place)

pub loop-gate-preserved : goal.loop-gate-preserved
loop-gate-preserved c =
    rw (c.in_ok-add_node.ensures.added, c.deref.ensures.value)
    (reads_more c.args.looped.now.net c.args.looped.now.blocks c.args.looped.now.cut c.args.gates.now c.loop-gate.gate-index _ c.loop-gate.graph c.in_ok-places.places.items refl c.loop-gate.invariant c.in_ok-places.ensures.places)
