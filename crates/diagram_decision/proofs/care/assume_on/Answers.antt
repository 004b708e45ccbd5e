use Rattle.std.proofs.Common.{◌≡◌, ◌∙◌, inl, Some, length}
use Rattle.diagram_decision.proofs.Common.{IfOk-weaker, values_of, model_of}
use Rattle.diagram_decision.proofs.CareLemmas.{model_grows, model_holds, model_there}
use Rattle.diagram_decision.proofs.care.assume_on.Goals as goal
use Rattle.diagram_decision.proofs.care.assume_on.Goals.{After-holds_on}

-- the model that is there
there : (c : After-holds_on) → c.args.care.now.assume ≡ Some (model_of c.in-Some.model.now 0 c.assume_columns.result.now)
there c = model_there c.args.care.now.assume c.in-Some.model.now c.assume_columns.result.now 0 (length c.args.rails.now) c.in-Some.ensures.net c.assume_columns.ensures.columns c.requires.reads

pub returns-clause-allowed : goal.returns-clause-allowed
returns-clause-allowed c =
    let is = there (goal.at.returns-clause-allowed c).After-holds_on in
    IfOk-weaker c.holds_on.result _ _ (λ node holds values v are. holds values v are ∙ model_holds c.args.care.now.assume _ values is) c.holds_on.ensures.holds

pub returns-clause-grows : goal.returns-clause-grows
returns-clause-grows c =
    let is = there (goal.at.returns-clause-grows c).After-holds_on in
    model_grows c.args.care.now c.args.care.now.assume _ (values_of c.args.d.now c.args.rails.now) is (λ over. inl over) c.holds_on.ensures.grows
