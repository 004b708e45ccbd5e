use Rattle.std.proofs.Common.{◌≡◌, None, arith}
use Rattle.diagram_decision.proofs.Common.{within_more, within_answered, within_refused, undetermined_refusal, AreLoose}
use Rattle.refusals.proofs.LawLemmas.{sources_determined}
use Rattle.diagram_decision.proofs.DecisionLemmas.{decision-then}
use Rattle.diagram_decision.proofs.PartLemmas.{AreFixed-kept}
use Rattle.diagram_decision.proofs.diagrams.verdict_on_care.Goals as goal
use Rattle.diagram_decision.proofs.diagrams.verdict_on_care.Goals.{In-Determined}

pub leaves-requires-clause-fixed : goal.leaves-requires-clause-fixed
leaves-requires-clause-fixed c = AreFixed-kept c.verdict_of_gates.ensures.grows.keeps c.requires.fixed

-- where no observed gate is unknown on care
gates-determined : (c : In-Determined) → (undetermined_refusal c.args.question.now.net c.args.question.now.care c.args.question.now.what ≡ None) × AreLoose c.args.question.now.net c.args.question.now.care c.in-Determined.loose
gates-determined c = rw c.in-Determined.is at c.in_ok-gates.ensures.gates

pub returns-in-Refused-clause-gates : goal.returns-in-Refused-clause-gates
returns-in-Refused-clause-gates c = grind arith

pub returns-in-Some-clause-gates : goal.returns-in-Some-clause-gates
returns-in-Some-clause-gates g = grind arith

pub returns-in-None-clause-gates : goal.returns-in-None-clause-gates
returns-in-None-clause-gates g = grind arith

pub leaves-requires-clause-loads : goal.leaves-requires-clause-loads
leaves-requires-clause-loads g v counts =
    let c : In-Determined = (goal.at.leaves-requires-clause-loads g).In-Determined in
    sources_determined c.args.question.now.net c.args.question.now.care c.args.question.now.what v c.verdict_of_gates.ensures.valid (gates-determined c).0 counts

-- ---- what it does to the diagrams

pub returns-in_err-gates-clause-grows : goal.returns-in_err-gates-clause-grows
returns-in_err-gates-clause-grows g = within_more (omega arith) (within_refused g.in_err-gates.was g.from_residual.ensures.1 g.verdict_of_gates.ensures.grows)

pub returns-in-Refused-clause-grows : goal.returns-in-Refused-clause-grows
returns-in-Refused-clause-grows g = within_more (omega arith) (within_answered g.verdict_of_gates.ensures.grows)

pub returns-in_err-left-clause-grows : goal.returns-in_err-left-clause-grows
returns-in_err-left-clause-grows g = within_refused g.in_err-left.was g.from_residual-in_err-left.ensures.1 (decision-then g.verdict_of_gates.ensures.grows g.leaves.ensures.grows)

pub returns-in-Some-clause-grows : goal.returns-in-Some-clause-grows
returns-in-Some-clause-grows g = within_answered (decision-then g.verdict_of_gates.ensures.grows g.leaves.ensures.grows)

pub returns-in-None-clause-grows : goal.returns-in-None-clause-grows
returns-in-None-clause-grows g = within_answered (decision-then g.verdict_of_gates.ensures.grows g.leaves.ensures.grows)
