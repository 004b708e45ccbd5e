use Rattle.std.proofs.Common.{◌++◌, length, map, reverse, take, ap, sym, ◌∙◌, arith}
use Rattle.aig_core.proofs.Common.{length_push, visit}
use Rattle.std.proofs.lemmas.List.{take_all}
use Rattle.std.proofs.lemmas.Iterator.Adapters.{YieldsList-from_rev_slice}
use Rattle.std.proofs.lemmas.Iterator.Consumers.{YieldsList-turn, YieldsList-end}
use Rattle.aig_core.proofs.DepthLemmas.{visits_more}
use Rattle.aig_core.proofs.depth.add_visits.Goals as goal

pub loop-node-preserved : goal.loop-node-preserved
loop-node-preserved c =
    let nodes = c.args.nodes.now in
    let old = c.args.tasks.now.items in
    let k = length c.loop-node.yielded in
    let t = YieldsList-turn (YieldsList-from_rev_slice nodes cc) c.loop-node.yielded _ c.loop-node.yielded_by _ _ c.in-Some.node c.in-Some.is c.next.ensures.steps in
    let longer = length_push c.loop-node.yielded c.in-Some.node in
    let more = visits_more old c.loop-node.tasks.items (reverse nodes) k c.in-Some.node.now t.0 t.1 c.loop-node.invariant in
    c.in_ok-push.ensures.items ∙ (more ∙ ap (λ n. old ++ map visit (take n (reverse nodes))) (sym longer))

pub returns : goal.returns
returns c =
    let nodes = c.args.nodes.now in
    let t = YieldsList-end (YieldsList-from_rev_slice nodes cc) c.loop-node.yielded _ c.loop-node.yielded_by _ _ c.in-None.is c.next.ensures.steps in
    c.loop-node.invariant ∙ ap (λ xs. c.args.tasks.now.items ++ map visit xs) (take_all (length c.loop-node.yielded) (reverse nodes) (omega (arith, t.1)))
