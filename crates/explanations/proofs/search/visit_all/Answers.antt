use Rattle.std.proofs.Common.{arith}
use Rattle.std.proofs.lemmas.List.{get_or_default}
use Rattle.explanations.proofs.SearchLemmas.{visited_more}
use Rattle.explanations.proofs.search.visit_all.Goals as goal

pub loop-target-preserved : goal.loop-target-preserved
loop-target-preserved c =
    visited_more c.args.from c.args.targets.now c.loop-target.target-index c.args.depth _ c.args.steps.now c.loop-target.steps c.visit.new.steps
    c.args.found.now.items c.loop-target.found.items c.visit.new.found.items c.loop-target-test.true
    (get_or_default c.args.targets.now c.loop-target.target-index _ 0 c.loop-target-test.true)
    c.loop-target.invariant c.in_ok-visit.ensures.grown c.in_ok-visit.ensures.placed

pub returns : goal.returns
returns c = grind arith
