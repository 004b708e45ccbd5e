use Rattle.std.proofs.Common.{◌∙◌, arith}
use Rattle.diagram_decision.proofs.Common.{adds_then, adds_more, adds_refused}
use Rattle.diagram_decision.proofs.DecisionLemmas.{decision-adds}
use Rattle.diagram_decision.proofs.counting.count_whole.Goals as goal

pub returns-in_err-found-clause-adds : goal.returns-in_err-found-clause-adds
returns-in_err-found-clause-adds g = adds_more (omega arith) (adds_refused g.in_err-found.was g.from_residual.ensures.1 g.solve_whole.ensures.adds)

pub returns-clause-adds : goal.returns-clause-adds
returns-clause-adds g = adds_then g.solve_whole.ensures.limit g.solve_whole.ensures.adds (decision-adds (g.solve_whole.ensures.vars ∙ g.requires.vars) g.count_solved.ensures.grows)
