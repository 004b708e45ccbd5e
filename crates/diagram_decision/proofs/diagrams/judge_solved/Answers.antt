use Rattle.std.proofs.Common.{None, arith}
use Rattle.diagram_decision.proofs.Common.{within_answered}
use Rattle.diagram_decision.proofs.VerdictLemmas.{accepts-is, refused-on-care}
use Rattle.diagram_decision.proofs.diagrams.judge_solved.Goals as goal

pub returns-in-Determined-clause-judgement : goal.returns-in-Determined-clause-judgement
returns-in-Determined-clause-judgement c =
    let q = c.args.question.now in
    let gates = rw c.in-Determined.is at c.in_ok-loose.ensures.gates in
    (accepts-is q.net q.care q.what c.laws.ensures.is.net (refused-on-care q.net q.care q.what None c.requires.start.initial c.requires.start.some gates.0), gates.1)

pub returns-in-Refused-clause-judgement : goal.returns-in-Refused-clause-judgement
returns-in-Refused-clause-judgement c = grind arith

pub returns-in-Determined-clause-grows : goal.returns-in-Determined-clause-grows
returns-in-Determined-clause-grows c = within_answered c.verdict_on_care.ensures.grows

pub returns-in-Refused-clause-grows : goal.returns-in-Refused-clause-grows
returns-in-Refused-clause-grows c = within_answered c.verdict_on_care.ensures.grows
