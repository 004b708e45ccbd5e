use Rattle.std.proofs.Common.{◌≡◌, None, length, drop, arith}
use Rattle.explanations.specs.Search.{IsSearch, IsWayBack, IsBest, IsBestOf, IsNearestOf}
use Rattle.explanations.proofs.SearchLemmas.{search_is_rooted}
use Rattle.explanations.proofs.CycleLemmas.{reaches_none, cycle_is_placed, is_shortest, split_first}
use Rattle.explanations.proofs.shortest.shortest_cycle.Goals as goal

pub returns-in_default-clause-none : goal.returns-in_default-clause-none
returns-in_default-clause-none c =
    let reached : IsSearch c.args.graph.now c.args.goal (length c.args.graph.now) c.in_ok-reached.reached.items = rw c.len.ensures at c.in_ok-reached.ensures in
    let none : IsBest c.args.graph.now c.in_ok-reached.reached.items (length c.args.graph.now) None = rw (c.in_default.is, c.deref.ensures.value) at c.in_ok-cycle.ensures in
    reaches_none c.args.graph.now c.args.goal c.in_ok-reached.reached.items reached none

pub nearest-start-requires-clause-placed : goal.nearest-start-requires-clause-placed
nearest-start-requires-clause-placed c = grind (arith, cycle_is_placed c.args.graph.now c.args.goal c.in_ok-reached.reached.items)

pub nearest-start-requires-clause-some : goal.nearest-start-requires-clause-some
nearest-start-requires-clause-some c = grind arith

pub way_back-requires : goal.way_back-requires
way_back-requires c = grind (arith, search_is_rooted c.args.graph.now c.args.goal (length c.args.graph.now) c.in_ok-reached.reached.items)

pub returns-clause-found : goal.returns-clause-found
returns-clause-found c =
    let steps = c.in_ok-reached.reached.items in
    let reached : IsSearch c.args.graph.now c.args.goal (length c.args.graph.now) steps = rw c.len.ensures at c.in_ok-reached.ensures in
    let best : IsBestOf c.args.graph.now steps (length c.args.graph.now) c.in-Some.cycle = rw (c.in-Some.is, c.deref.ensures.value) at c.in_ok-cycle.ensures in
    let nearest : IsNearestOf steps c.in-Some.cycle (length c.in-Some.cycle) c.nearest-start.result = rw (c.items.ensures, c.deref-2.ensures.value) at c.nearest-start.ensures in
    let back : IsWayBack steps c.nearest-start.result c.in_ok-whole.whole.items = rw c.deref-3.ensures.value at c.in_ok-whole.ensures in
    let rest : c.in_ok-way.way.items ≡ drop 1 c.in_ok-whole.whole.items = rw c.deref-4.ensures.value at c.in_ok-way.ensures in
    rw (c.of.ensures, rest)
    (is_shortest c.args.graph.now c.args.goal steps reached c.in-Some.cycle c.in_ok-whole.whole.items (drop 1 c.in_ok-whole.whole.items) c.nearest-start.result best nearest back
    (split_first c.in_ok-whole.whole.items c.nearest-start.result back.some back.starts))
