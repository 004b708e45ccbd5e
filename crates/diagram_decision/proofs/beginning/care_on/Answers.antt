use Rattle.std.proofs.Common.{◌≡◌, ◌∙◌, refl, ◌*◌, List, Bool, length, sym, arith}
use Rattle.diagram_decision.proofs.Common.{within_only, within_one, within_then, within_moved, within_more, within_refused, conjunction, is_care_vector, assume_effort, GrowsInDecision, SaysCare, laid, order, values_of}
use Rattle.dual_rail.proofs.WidthLemmas.{wide-one}
use Rattle.diagram_decision.proofs.DecisionLemmas.{decision_list, decision-wide, wide-kept}
use Rattle.diagram_decision.proofs.MadeLemmas.{made-listed}
use Rattle.diagram_decision.proofs.PartLemmas.{assume-reads}
use Rattle.diagram_decision.proofs.WorkLemmas.{assume-bounded}
use Rattle.diagram_decision.proofs.beginning.care_on.Goals as goal
use Rattle.diagram_decision.proofs.beginning.care_on.Goals.{After-assume_on, After-and}

pub assume_on-requires-clause-reads : goal.assume_on-requires-clause-reads
assume_on-requires-clause-reads c = rw c.care.ensures.care (assume-reads c.args.question.now.net c.args.question.now.care _ c.care.ensures.is.care (c.requires.columns.width ∙ c.requires.vars))

-- the set and the assumption are true at the vectors of care
counts : (c : After-and) (v : List Bool) → length v ≡ c.args.d.now.vars → conjunction c.assume_on.new.d c.args.inside c.in_ok-allowed.allowed (laid c.args.question.now.net v) ≡ is_care_vector c.args.question.now.net c.args.question.now.care v
counts c v long = grind arith

pub returns-clause-told : goal.returns-clause-told
returns-clause-told g = grind arith

-- what the assumption works with
assumption : (c : After-assume_on) → GrowsInDecision c.assume_on.result c.args.d.now c.assume_on.new.d c.args.question.now.net c.args.question.now.care (2 * assume_effort c.args.question.now.care)
assumption c =
    let q = c.args.question.now in
    within_moved (λ w wide. assume-bounded (decision_list q.net q.care) (order q.net) c.requires.vars (decision-wide c.requires.vars wide) (values_of c.args.d.now c.args.rails.now) c.requires.columns.values)
    (rw c.care.ensures.care at c.assume_on.ensures.grows)

pub returns-in_err-allowed-clause-grows : goal.returns-in_err-allowed-clause-grows
returns-in_err-allowed-clause-grows g = within_more (omega arith) (within_refused g.in_err-allowed.was g.from_residual.ensures.1 (assumption (goal.at.returns-in_err-allowed-clause-grows g).After-assume_on))

pub returns-clause-grows : goal.returns-clause-grows
returns-clause-grows g =
    let at = goal.at.returns-clause-grows g in
    let keeps = g.assume_on.ensures.grows.keeps in
    within_then (assumption at.After-assume_on) (within_only (within_one (λ w wide.
    wide-one (decision-wide (keeps.vars ∙ g.requires.vars) (wide-kept keeps wide)) (conjunction g.assume_on.new.d g.args.inside g.in_ok-allowed.allowed)
    (made-listed (SaysCare (λ v. refl)) (λ v long. counts at.After-and v (long ∙ sym g.requires.vars)))) g.and.ensures.grows))
