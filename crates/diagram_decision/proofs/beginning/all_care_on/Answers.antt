use Rattle.std.proofs.Common.{arith}
use Rattle.diagram_decision.proofs.Common.{within_more, within_refused, AreColumns-kept}
use Rattle.diagram_decision.proofs.DecisionLemmas.{decision-then}
use Rattle.diagram_decision.proofs.beginning.all_care_on.Goals as goal

pub care_on-requires-clause-columns : goal.care_on-requires-clause-columns
care_on-requires-clause-columns c = AreColumns-kept c.inside_on.ensures.grows.keeps c.requires.columns

pub returns-in_err-inside-clause-grows : goal.returns-in_err-inside-clause-grows
returns-in_err-inside-clause-grows c = within_more (omega arith) (within_refused c.in_err-inside.was c.from_residual.ensures.1 c.inside_on.ensures.grows)

pub returns-clause-grows : goal.returns-clause-grows
returns-clause-grows c = decision-then c.inside_on.ensures.grows c.care_on.ensures.grows
