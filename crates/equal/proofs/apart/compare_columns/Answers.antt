use Rattle.std.proofs.Common.{◌≡◌, ◌∙◌, inl, inr, Bool, List, length, sym, arith}
use Rattle.equal.proofs.Common.{within_only, by_variable, bits, values_of, columns}
use Rattle.bdd_store.proofs.GrowthLemmas.{adds_then, adds_caused, adds_moved, adds_more, adds_refused}
use Rattle.dual_rail.proofs.SurelyLemmas.{All-rails-kept}
use Rattle.loops.specs.Cuts.{loops_by}
use Rattle.fixpoint.specs.Working.{HasLargeCover}
use Rattle.fixpoint.proofs.ColumnLemmas.{AreColumns-kept}
use Rattle.fixpoint.proofs.ToldLemmas.{loops-are}
use Rattle.diagram_decision.proofs.MadeLemmas.{working-wide}
use Rattle.diagram_decision.specs.Costs.{solving_cost}
use Rattle.equal.specs.Comparisons.{AddsInComparison, care_cost}
use Rattle.equal.proofs.ApartLemmas.{fixed-is}
use Rattle.equal.proofs.LaidLemmas.{comparison_list, comparison-wide}
use Rattle.equal.proofs.apart.compare_columns.Goals as goal
use Rattle.equal.proofs.apart.compare_columns.Goals.{After-care_on, After-solve_beside}

pub solve_beside-requires-clause-rails : goal.solve_beside-requires-clause-rails
solve_beside-requires-clause-rails c = All-rails-kept c.care_on.ensures.grows.keeps c.args.rails.now c.requires.columns.proper

-- ---- the rails of the columns, and the vectors that they stand for

care-vars : (c : After-solve_beside) → c.care_on.new.d.vars ≡ columns c.args.comparison.now.looped.now.net
care-vars c = c.care_on.ensures.grows.keeps.vars ∙ c.requires.vars

points-are : (c : After-solve_beside) (v : List Bool) → length v ≡ columns c.args.comparison.now.looped.now.net → values_of c.care_on.new.d c.args.rails.now (by_variable c.args.comparison.now.order.now v) ≡ bits v
points-are c v long = (AreColumns-kept c.care_on.ensures.grows.keeps c.requires.columns).values v (long ∙ sym (care-vars c))

pub compare_solved-requires-clause-vars : goal.compare_solved-requires-clause-vars
compare_solved-requires-clause-vars g = g.solve_beside.ensures.vars ∙ care-vars (goal.at.compare_solved-requires-clause-vars g).After-solve_beside

pub compare_solved-requires-clause-fixed : goal.compare_solved-requires-clause-fixed
compare_solved-requires-clause-fixed g =
    let c : After-solve_beside = (goal.at.compare_solved-requires-clause-fixed g).After-solve_beside in
    let l = g.args.comparison.now.looped.now in
    grind (arith, After-solve_beside, fixed-is g.args.comparison.now.order.now l.net l.blocks l.cut g.solve_beside.new.d (values_of g.care_on.new.d g.args.rails.now) g.in_ok-found.found.solved, care-vars c, points-are c)

pub compare_solved-requires-clause-set : goal.compare_solved-requires-clause-set
compare_solved-requires-clause-set g = grind arith

-- ---- what it does to the diagrams

care-adds : (c : After-care_on) → AddsInComparison c.care_on.result c.args.d.now c.care_on.new.d c.args.comparison.now.order.now c.args.comparison.now.looped.now.net c.args.comparison.now.care.now (care_cost c.args.comparison.now.care.now)
care-adds c = adds_caused (λ over. inr over) c.care_on.ensures.grows.adds

-- the working list of the fixpoint
solving-adds : (c : After-solve_beside) → AddsInComparison c.solve_beside.result c.care_on.new.d c.solve_beside.new.d c.args.comparison.now.order.now c.args.comparison.now.looped.now.net c.args.comparison.now.care.now (solving_cost c.args.comparison.now.looped.now.net)
solving-adds c =
    let comparison = c.args.comparison.now in
    let l = comparison.looped.now in
    let is = c.care_on.ensures.looped in
    adds_caused {cause = HasLargeCover l.net} (λ over. inl over)
    (adds_moved (λ w wide.
    working-wide (comparison_list l.net comparison.care.now) comparison.order.now (values_of c.care_on.new.d c.args.rails.now) (points-are c) (loops_by l.blocks l.cut) (loops-are l.net l.blocks l.cut is.blocks is.cut)
    (comparison-wide comparison.order.now l.net comparison.care.now comparison.laid (care-vars c) wide)) c.solve_beside.ensures.adds)

pub returns-in_err-set-clause-adds : goal.returns-in_err-set-clause-adds
returns-in_err-set-clause-adds g = adds_more (omega arith) (adds_refused g.in_err-set.was g.from_residual.ensures.1 (care-adds (goal.at.returns-in_err-set-clause-adds g).After-care_on))

pub returns-in_err-found-clause-adds : goal.returns-in_err-found-clause-adds
returns-in_err-found-clause-adds g =
    let at = goal.at.returns-in_err-found-clause-adds g in
    adds_more (omega arith)
    (adds_refused g.in_err-found.was g.from_residual-in_err-found.ensures.1
    (adds_then g.care_on.ensures.grows.keeps.limit (care-adds at.After-care_on) (solving-adds at.After-solve_beside)))

pub returns-clause-adds : goal.returns-clause-adds
returns-clause-adds g =
    let at = goal.at.returns-clause-adds g in
    adds_then g.care_on.ensures.grows.keeps.limit (care-adds at.After-care_on)
    (adds_then g.solve_beside.ensures.limit (solving-adds at.After-solve_beside) (within_only g.compare_solved.ensures.grows).adds)
