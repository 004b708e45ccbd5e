use Rattle.std.proofs.Common.{◌∙◌}
use Rattle.diagram_decision.proofs.Common.{IfOk-weaker}
use Rattle.diagram_decision.proofs.PartLemmas.{least-told, order-layout}
use Rattle.diagram_decision.proofs.refusing.least_in.Goals as goal

pub least_of-requires-clause-columns : goal.least_of-requires-clause-columns
least_of-requires-clause-columns c = order-layout c.args.question.now.net c.args.d.now.vars c.order.result.now c.requires.vars c.order.ensures

pub returns : goal.returns
returns c test told = IfOk-weaker c.least_of.result _ _ (λ found is. is ∙ least-told c.requires.vars c.order.ensures told) c.least_of.ensures
