use Rattle.std.proofs.Common.{◌≡◌, ◌++◌, ◌∷◌, [], ◌<◌, List, length, map, reverse, false, sym, ap₂, subst, ◌∙◌, arith}
use Rattle.aig_core.proofs.Common.{nat_eq, list_any, successors, NodeTask, visit}
use Rattle.std.proofs.lemmas.List.{get_or_default}
use Rattle.std.proofs.lemmas.Result.{on_ok_weaker}
use Rattle.aig_core.specs.declared.depth.NodeTask.TheVariants.{Place}
use Rattle.aig_core.specs.Tasks.{Advances}
use Rattle.aig_core.proofs.DepthLemmas.{pass_advances, open_advances}
use Rattle.aig_core.proofs.depth.step.Goals as goal
use Rattle.aig_core.proofs.depth.step.Goals.{In-Visit}

within : (c : In-Visit) → c.in-Visit.node < length c.args.graph.now
within c = rw c.in-Visit.is at c.requires.task

pub returns-then-index-clause-advances : goal.returns-then-index-clause-advances
returns-then-index-clause-advances c =
    let nodes = c.args.placed.now.nodes.items in
    let marks = c.args.placed.now.marks.items in
    let tasks = c.args.tasks.now.items in
    let n = c.in-Visit.node in
    grind (arith, within ((goal.at.returns-then-index-clause-advances c).In-Visit), get_or_default marks n false c.index.result.now, pass_advances c.args.graph.now nodes tasks n c.requires.tasks)

pub returns-in_ok-push-in-Visit-clause-advances : goal.returns-in_ok-push-in-Visit-clause-advances
returns-in_ok-push-in-Visit-clause-advances c =
    let graph = c.args.graph.now in
    let nodes = c.args.placed.now.nodes.items in
    let marks = c.args.placed.now.marks.items in
    let tasks = c.args.tasks.now.items in
    let n = c.in-Visit.node in
    let l = within ((goal.at.returns-in_ok-push-in-Visit-clause-advances c).In-Visit) in
    let marked : n < length marks = omega (arith, c.requires.width) in
    let new : list_any (nat_eq n) nodes ≡ false =
    sym (c.requires.marks n marked) ∙ get_or_default marks n false c.index.result.now marked ∙ sym c.index.ensures ∙ c.if-index.false in
    let advances : Advances graph nodes nodes (tasks ++ c.args.task ∷ []) ((tasks ++ Place n ∷ []) ++ map visit (reverse (successors graph n))) = rw c.in-Visit.is (open_advances graph c.requires.ranks nodes tasks n c.requires.tasks l new) in
    on_ok_weaker c.add_visits.result
    (λ e. subst (λ (after : List NodeTask). Advances graph nodes nodes (tasks ++ c.args.task ∷ []) after) (sym (e ∙ ap₂ (λ xs ys. xs ++ map visit (reverse ys)) c.in_ok-push-in-Visit.ensures.items c.successors.ensures)) advances)
    c.add_visits.ensures
