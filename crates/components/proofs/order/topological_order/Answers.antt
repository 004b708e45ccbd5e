use Rattle.std.proofs.Common.{refl}
use Rattle.components.proofs.OrderLemmas.{pair_cycle, homes_within, acyclic, ordered}
use Rattle.components.proofs.order.topological_order.Goals as goal

pub returns-then-not-branch-clause-none : goal.returns-then-not-branch-clause-none
returns-then-not-branch-clause-none c =
    pair_cycle c.args.graph.now c.in_ok-components.components c.in_ok-components.ensures (c.if-has_self_edge.ensures.none refl)
    (rw c.items-homes.ensures at (c.in_ok-all_differ.ensures.pair c.if-not-branch.true))

pub places-requires-clause-within : goal.places-requires-clause-within
places-requires-clause-within c =
    rw c.items-homes.ensures (homes_within c.args.graph.now c.in_ok-components.components c.in_ok-components.ensures (c.if-has_self_edge.ensures.none refl))

pub returns-clause-order : goal.returns-clause-order
returns-clause-order c =
    ordered c.args.graph.now c.in_ok-components.components c.in_ok-components.ensures (c.if-has_self_edge.ensures.none refl)
    (rw c.items-homes.ensures at (c.in_ok-all_differ.ensures.all c.if-not-branch.false)) c.in_ok-places.field-0.items (rw c.items-homes.ensures at c.in_ok-places.ensures)

pub returns-clause-acyclic : goal.returns-clause-acyclic
returns-clause-acyclic c =
    acyclic c.args.graph.now c.in_ok-components.components c.in_ok-components.ensures (c.if-has_self_edge.ensures.none refl)
    (rw c.items-homes.ensures at (c.in_ok-all_differ.ensures.all c.if-not-branch.false))
