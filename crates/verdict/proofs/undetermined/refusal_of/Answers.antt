use Rattle.std.proofs.Common.{arith}
use Rattle.diagram_decision.proofs.PartLemmas.{undetermined-found}
use Rattle.verdict.proofs.undetermined.refusal_of.Goals as goal

pub least_unknown-requires-clause-within : goal.least_unknown-requires-clause-within
least_unknown-requires-clause-within c = c.in_ok-scope.ensures.within 0 c.args.gate (omega arith)

pub returns-in-Least : goal.returns-in-Least
returns-in-Least c =
    let s = c.args.question.now in
    grind (arith, undetermined-found s.net s.care s.what c.args.gate c.in-Least.vector.items c.requires.within c.requires.first)
