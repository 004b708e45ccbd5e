use Rattle.std.proofs.Common.{arith}
use Rattle.diagram_decision.proofs.Common.{adds_then, adds_more, adds_refused, AreColumns-kept}
use Rattle.diagram_decision.proofs.DecisionLemmas.{decision-adds}
use Rattle.diagram_decision.proofs.counting.count_on.Goals as goal

pub count_whole-requires-clause-columns : goal.count_whole-requires-clause-columns
count_whole-requires-clause-columns c = AreColumns-kept c.all_care_on.ensures.grows.keeps c.requires.columns

pub returns-in_err-set-clause-adds : goal.returns-in_err-set-clause-adds
returns-in_err-set-clause-adds g = adds_more (omega arith) (adds_refused g.in_err-set.was g.from_residual.ensures.1 (decision-adds g.requires.vars g.all_care_on.ensures.grows))

pub returns-clause-adds : goal.returns-clause-adds
returns-clause-adds g = adds_then g.all_care_on.ensures.grows.keeps.limit (decision-adds g.requires.vars g.all_care_on.ensures.grows) g.count_whole.ensures.adds
