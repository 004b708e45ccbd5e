use Rattle.std.proofs.Common.{◌∙◌, ◌+◌, ◌≤◌, arith}
use Rattle.bdd_store.proofs.GrowthLemmas.{adds_then}
use Rattle.equal.specs.Comparisons.{AddsInComparison, comparison_cost, whole_cost}
use Rattle.equal.proofs.EnoughLemmas.{full_for}
use Rattle.equal.proofs.apart.compare_on.Goals as goal
use Rattle.equal.proofs.apart.compare_on.Goals.{After-column_rails}

after-columns : (c : After-column_rails) → AddsInComparison c.column_rails.result c.args.d.now c.column_rails.new.d c.args.comparison.now.order.now c.args.comparison.now.looped.now.net c.args.comparison.now.care.now 2
after-columns c = grind arith

pub returns-in_err-rails-clause-full : goal.returns-in_err-rails-clause-full
returns-in_err-rails-clause-full g = grind arith

pub returns-clause-full : goal.returns-clause-full
returns-clause-full g =
    let c : After-column_rails = (goal.at.returns-clause-full g).After-column_rails in
    let keeps = c.column_rails.ensures.grows.keeps in
    let cost : 2 + whole_cost g.args.comparison.now.looped.now.net g.args.comparison.now.care.now g.args.comparison.now.pairs.now ≤ comparison_cost g.args.comparison.now.looped.now.net g.args.comparison.now.care.now g.args.comparison.now.pairs.now = omega arith in
    full_for (record { variables = g.compare_columns.ensures.vars ∙ keeps.vars ∙ g.requires.vars; most = g.compare_columns.ensures.limit ∙ keeps.limit }) cost
    (adds_then keeps.limit (after-columns c) g.compare_columns.ensures.adds)
