use Rattle.std.proofs.Common.{◌&&◌, not, Some, None, arith}
use Rattle.diagram_decision.proofs.Common.{Tells, starts, has_state_inside}
use Rattle.bdd_store.proofs.GrowthLemmas.{grows_refused}
use Rattle.diagram_decision.proofs.PartLemmas.{Tells-minus, initial-is}
use Rattle.diagram_decision.proofs.refusing.initial_refusal.Goals as goal
use Rattle.diagram_decision.proofs.refusing.initial_refusal.Goals.{In_ok-outside}

outside : (c : In_ok-outside) → Tells c.args.question.now.net c.minus.new.d c.in_ok-outside.outside (λ v. starts c.args.question.now.net v && not (has_state_inside c.args.question.now.net c.args.question.now.care v))
outside c = Tells-minus c.minus.ensures.grows.keeps.vars c.in_ok-outside.ensures.node c.in_ok-outside.ensures.function c.requires.starts c.requires.inside

pub returns-in_default-clause-refusal : goal.returns-in_default-clause-refusal
returns-in_default-clause-refusal c = grind (arith, outside (goal.at.returns-in_default-clause-refusal c).In_ok-outside, initial-is c.args.question.now.net c.args.question.now.care None)

pub returns-clause-refusal : goal.returns-clause-refusal
returns-clause-refusal c = grind (arith, outside (goal.at.returns-clause-refusal c).In_ok-outside, initial-is c.args.question.now.net c.args.question.now.care (Some c.in-Some.vector.items))

pub returns-in_err-outside-clause-grows : goal.returns-in_err-outside-clause-grows
returns-in_err-outside-clause-grows c = grows_refused c.in_err-outside.was c.from_residual.ensures.1 c.minus.ensures.grows
