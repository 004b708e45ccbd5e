use Rattle.std.proofs.Common.{◌&&◌, not, ap₂, ◌∙◌, arith}
use Rattle.diagram_decision.proofs.Common.{IfOk-weaker, den, within_one, within_then, within_more, within_refused}
use Rattle.diagram_decision.proofs.PartLemmas.{unknown-nodes, unknown-values}
use Rattle.diagram_decision.proofs.refusing.unknown_on.Goals as goal

pub returns-in_err-open-clause-grows : goal.returns-in_err-open-clause-grows
returns-in_err-open-clause-grows c = within_more (omega arith) (within_refused c.in_err-open.was c.from_residual.ensures.1 (within_one (λ w b. b.first) c.minus.ensures.grows))

pub returns-clause-grows : goal.returns-clause-grows
returns-clause-grows c = grind (arith, within_then, within_one, unknown-nodes c.args.d.now c.minus.new.d c.args.set c.in_ok-open.open c.args.rails)

pub returns-clause-unknown : goal.returns-clause-unknown
returns-clause-unknown c =
    IfOk-weaker c.minus-2.result _ _ (λ found is v.
    is v
    ∙ ap₂ (λ x y. x && not y) (c.in_ok-open.ensures.function v) (c.minus.ensures.grows.keeps.function c.args.rails.zero v c.requires.zero)
    ∙ unknown-values (den c.args.d.now c.args.set v) (den c.args.d.now c.args.rails.one v) (den c.args.d.now c.args.rails.zero v)) c.minus-2.ensures.function
