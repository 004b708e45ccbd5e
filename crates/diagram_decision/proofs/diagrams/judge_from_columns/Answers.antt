use Rattle.diagram_decision.proofs.PartLemmas.{order-layout}
use Rattle.diagram_decision.proofs.diagrams.judge_from_columns.Goals as goal

pub column_rails-requires : goal.column_rails-requires
column_rails-requires c = order-layout c.args.question.now.net c.args.d.now.vars c.order.result.now c.requires c.order.ensures
