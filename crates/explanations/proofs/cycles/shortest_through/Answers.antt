use Rattle.std.proofs.Common.{None, length, arith}
use Rattle.explanations.specs.Search.{IsClosing}
use Rattle.explanations.proofs.SearchLemmas.{search_is_rooted}
use Rattle.explanations.proofs.CycleLemmas.{through_some, through_none}
use Rattle.explanations.proofs.cycles.shortest_through.Goals as goal

pub way_back-requires : goal.way_back-requires
way_back-requires c = grind (arith, search_is_rooted c.args.graph.now c.args.root c.args.limit c.in_ok-steps.steps.items c.in_ok-steps.ensures)

pub returns-in-Some : goal.returns-in-Some
returns-in-Some c = grind (arith, through_some c.args.graph.now c.args.root c.args.limit c.in_ok-steps.steps.items c.in-Some.step c.in_ok-way_back-in-Some.field-0.items c.requires c.in_ok-steps.ensures)

pub returns : goal.returns
returns c =
    let closing : IsClosing c.args.graph.now c.args.root c.in_ok-steps.steps.items (length c.args.graph.now) None =
    rw (c.in-None.is, c.deref.ensures.value) at c.closing_step.ensures in
    through_none c.args.graph.now c.args.root c.args.limit c.in_ok-steps.steps.items c.in_ok-steps.ensures closing
