use Rattle.std.proofs.Common.{arith}
use Rattle.diagram_decision.proofs.Common.{adds_then, AddsInDecision}
use Rattle.diagram_decision.proofs.CauseLemmas.{full_for}
use Rattle.diagram_decision.proofs.PartLemmas.{order-layout}
use Rattle.diagram_decision.proofs.counting.count_from_columns.Goals as goal
use Rattle.diagram_decision.proofs.counting.count_from_columns.Goals.{After-column_rails}

pub column_rails-requires : goal.column_rails-requires
column_rails-requires c = order-layout c.args.question.now.net c.args.d.now.vars c.order.result.now c.requires c.order.ensures

-- ---- what it does to the diagrams

after-columns : (c : After-column_rails) → AddsInDecision c.column_rails.result c.args.d.now c.column_rails.new.d c.args.question.now.net c.args.question.now.care 2
after-columns c = grind arith

-- ---- why it ends without the sweeps

pub returns-in_err-rails-clause-full : goal.returns-in_err-rails-clause-full
returns-in_err-rails-clause-full g = grind arith

pub returns-clause-full : goal.returns-clause-full
returns-clause-full g =
    let c : After-column_rails = (goal.at.returns-clause-full g).After-column_rails in
    let keeps = c.column_rails.ensures.grows.keeps in
    grind (arith, After-column_rails, full_for, adds_then keeps.limit (after-columns c) g.count_on.ensures.adds, after-columns c)
