use Rattle.bdd_store.proofs.GrowthLemmas.{grows_alike}
use Rattle.std.proofs.Common.{◌∙◌}
use Rattle.diagram_decision.proofs.Common.{IfOk-weaker}
use Rattle.diagram_decision.proofs.SetLemmas.{difference-is_choice}
use Rattle.diagram_decision.proofs.sets.minus.Goals as goal

pub returns-clause-function : goal.returns-clause-function
returns-clause-function c = IfOk-weaker c.ite.result _ _ (λ set is v. is v ∙ difference-is_choice c.args.d.now c.args.m c.args.n c.of.result c.of.ensures.constant v) c.ite.ensures.function

pub returns-clause-grows : goal.returns-clause-grows
returns-clause-grows c = grows_alike (difference-is_choice c.args.d.now c.args.m c.args.n c.of.result c.of.ensures.constant) c.ite.ensures.grows
