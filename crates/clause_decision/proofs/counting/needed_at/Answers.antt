use Rattle.std.proofs.Common.{arith}
use Rattle.clause_decision.proofs.Common.{vector_in, LoopAt}
use Rattle.clause_decision.proofs.SweepingLemmas.{more-needed, one-more-needed}
use Rattle.clause_decision.proofs.counting.needed_at.Goals as goal

pub returns-then-is_enough : goal.returns-then-is_enough
returns-then-is_enough c few need =
    let l : LoopAt = c.args.block.now in
    grind (arith, one-more-needed l c.cut_count-most.ensures.is c.args.care.now c.args.sweeps (vector_in l.net c.args.swept.now.cone.rails.items c.args.model.now) few need)

pub returns : goal.returns
returns c few need =
    let l : LoopAt = c.args.block.now in
    grind (arith, more-needed l c.cut_count-most.ensures.is c.args.care.now c.args.sweeps (vector_in l.net c.args.swept.now.cone.rails.items c.args.model.now) few)
