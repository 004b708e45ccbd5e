use Rattle.std.proofs.Common.{arith}
use Rattle.std.proofs.lemmas.List.{get_or_default}
use Rattle.explanations.proofs.SearchLemmas.{level_more}
use Rattle.explanations.proofs.search.next_level.Goals as goal

pub loop-node-preserved : goal.loop-node-preserved
loop-node-preserved c =
    level_more c.args.graph.now c.args.level.now c.loop-node.node-index c.args.depth _ c.successors.result.now c.args.steps.now c.loop-node.steps c.visit_all.new.steps
    c.loop-node.next.items c.visit_all.new.found.items c.loop-node-test.true
    (get_or_default c.args.level.now c.loop-node.node-index _ 0 c.loop-node-test.true)
    c.successors.ensures c.loop-node.invariant c.in_ok-visit_all.ensures

pub returns : goal.returns
returns c = grind arith
