use Rattle.std.proofs.Common.{None, arith}
use Rattle.refusals.proofs.LawLemmas.{sources_determined}
use Rattle.diagram_decision.proofs.VerdictLemmas.{accepts-is, refused-on-care}
use Rattle.verdict.proofs.clauses.judge_by_invariance.Goals as goal

pub invariance_of-requires : goal.invariance_of-requires
invariance_of-requires c v counts = sources_determined c.args.question.now.net c.args.question.now.care c.args.question.now.what v c.laws.ensures.is.net c.requires.determined.none counts

pub returns-in-Stays : goal.returns-in-Stays
returns-in-Stays c =
    let s = c.args.question.now in
    grind (arith, accepts-is s.net s.care c.args.question.now.what c.laws.ensures.is.net, refused-on-care s.net s.care c.args.question.now.what None c.requires.begins.initial c.requires.begins.some)

-- a next state that leaves the invariant refuses the netlist
pub returns-in-Leaves : goal.returns-in-Leaves
returns-in-Leaves c = grind arith
