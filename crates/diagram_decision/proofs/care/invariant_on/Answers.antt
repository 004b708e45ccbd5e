use Rattle.std.proofs.Common.{◌≡◌, ◌∙◌, inr, Some, length}
use Rattle.diagram_decision.proofs.Common.{IfOk-weaker, values_of, model_of}
use Rattle.diagram_decision.proofs.CareLemmas.{model_grows, model_holds, model_there}
use Rattle.diagram_decision.proofs.care.invariant_on.Goals as goal
use Rattle.diagram_decision.proofs.care.invariant_on.Goals.{After-holds_on}

-- the model that is there
there : (c : After-holds_on) → c.args.care.now.invariant ≡ Some (model_of c.in-Some.model.now c.args.first c.invariant_columns.result.now)
there c = model_there c.args.care.now.invariant c.in-Some.model.now c.invariant_columns.result.now c.args.first (length c.args.latches.now) c.in-Some.ensures.net c.invariant_columns.ensures.columns c.requires.reads

pub returns-clause-inside : goal.returns-clause-inside
returns-clause-inside c =
    let is = there (goal.at.returns-clause-inside c).After-holds_on in
    IfOk-weaker c.holds_on.result _ _ (λ node holds values v are. holds values v are ∙ model_holds c.args.care.now.invariant _ values is) c.holds_on.ensures.holds

pub returns-clause-grows : goal.returns-clause-grows
returns-clause-grows c =
    let is = there (goal.at.returns-clause-grows c).After-holds_on in
    model_grows c.args.care.now c.args.care.now.invariant _ (values_of c.args.d.now c.args.latches.now) is (λ over. inr over) c.holds_on.ensures.grows
