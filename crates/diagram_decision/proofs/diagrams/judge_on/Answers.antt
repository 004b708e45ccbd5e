use Rattle.std.proofs.Common.{◌+◌, ◌≤◌, arith}
use Rattle.diagram_decision.proofs.Common.{adds_then, adds_more, adds_refused, AreColumns-kept, start_cost}
use Rattle.bdd_store.proofs.GrowthLemmas.{adds_answered}
use Rattle.diagram_decision.specs.Costs.{judging_cost}
use Rattle.diagram_decision.proofs.DecisionLemmas.{decision-adds}
use Rattle.diagram_decision.proofs.diagrams.judge_on.Goals as goal

pub judge_whole-requires-clause-columns : goal.judge_whole-requires-clause-columns
judge_whole-requires-clause-columns c = AreColumns-kept c.begin.ensures.grows.keeps c.requires.columns

pub returns-in_err-set-clause-adds : goal.returns-in_err-set-clause-adds
returns-in_err-set-clause-adds g =
    adds_more (let e : start_cost g.args.question.now.net g.args.question.now.care + 0 ≤ start_cost g.args.question.now.net g.args.question.now.care + judging_cost g.args.question.now.net g.args.question.now.care = omega arith in omega (arith, e))
    (adds_refused g.in_err-set.was g.from_residual.ensures.1 (decision-adds g.requires.vars g.begin.ensures.grows))

pub returns-in-Refused-clause-adds : goal.returns-in-Refused-clause-adds
returns-in-Refused-clause-adds g =
    adds_more (let e : start_cost g.args.question.now.net g.args.question.now.care + 0 ≤ start_cost g.args.question.now.net g.args.question.now.care + judging_cost g.args.question.now.net g.args.question.now.care = omega arith in omega (arith, e))
    (adds_answered (decision-adds g.requires.vars g.begin.ensures.grows))

pub returns-in-Care-clause-adds : goal.returns-in-Care-clause-adds
returns-in-Care-clause-adds g = grind (arith, adds_then g.begin.ensures.grows.keeps.limit (decision-adds g.requires.vars g.begin.ensures.grows) g.judge_whole.ensures.adds, decision-adds g.requires.vars g.begin.ensures.grows)
