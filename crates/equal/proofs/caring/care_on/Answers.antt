use Rattle.std.proofs.Common.{◌≡◌, ◌∙◌, ◌+◌, ◌-◌, ◌*◌, Bool, List, length, take, drop, refl, sym, ap, arith}
use Rattle.std.proofs.lemmas.List.{take_rest, length-drop}
use Rattle.diagram_decision.proofs.MadeLemmas.{made-listed}
use Rattle.diagram_decision.proofs.PartLemmas.{IfOk-both, invariant-reads, assume-reads}
use Rattle.diagram_decision.proofs.WorkLemmas.{assume-bounded, invariant-bounded}
use Rattle.equal.proofs.Common.{GrowsWithin, within_only, within_moved, within_then, within_more, within_refused, by_variable, conjunction, values_of, columns, is_care_vector, IsWide, IsLaidBy}
use Rattle.bdd_store.proofs.GrowthLemmas.{KeepsNodes-chain, within_one}
use Rattle.dual_rail.proofs.SurelyLemmas.{All-rails-kept, values_of-kept}
use Rattle.dual_rail.proofs.WidthLemmas.{wide-one}
use Rattle.diagram_decision.specs.Causes.{HasModelOver}
use Rattle.diagram_decision.specs.Costs.{assume_effort, invariant_effort}
use Rattle.equal.specs.Comparisons.{SaysCare}
use Rattle.equal.proofs.CaringLemmas.{state-values}
use Rattle.equal.proofs.LaidLemmas.{comparison_list, comparison-wide}
use Rattle.equal.proofs.caring.care_on.Goals as goal
use Rattle.equal.proofs.caring.care_on.Goals.{After-invariant_on, After-assume_on, After-and}

pub invariant_on-requires-clause-reads : goal.invariant_on-requires-clause-reads
invariant_on-requires-clause-reads c =
    let net = c.args.comparison.now.looped.now.net in
    let rails = c.args.rails.now in
    let first = rw c.net.ensures.net at c.inputs-first.ensures.inputs in
    let cut = ap length (take_rest rails c.inputs-first.result) ∙ length-drop c.inputs-first.result rails in
    let width : length (take (length rails - c.inputs-first.result) (drop c.inputs-first.result rails)) ≡ length net.latches = omega (arith, cut, c.requires.columns.width, c.requires.vars, first) in
    rw first (invariant-reads net c.args.comparison.now.care.now _ c.requires.care (rw first at width))

pub assume_on-requires-clause-reads : goal.assume_on-requires-clause-reads
assume_on-requires-clause-reads c = assume-reads c.args.comparison.now.looped.now.net c.args.comparison.now.care.now (length c.args.rails.now) c.requires.care (c.requires.columns.width ∙ c.requires.vars)

pub assume_on-requires-clause-rails : goal.assume_on-requires-clause-rails
assume_on-requires-clause-rails c = All-rails-kept c.invariant_on.ensures.grows.keeps c.args.rails.now c.requires.columns.proper

-- what the set says
counted : (c : After-and) (v : List Bool) → length v ≡ c.args.d.now.vars →
    conjunction c.assume_on.new.d c.in_ok-inside.inside c.in_ok-allowed.allowed (by_variable c.args.comparison.now.order.now v) ≡ is_care_vector c.args.comparison.now.looped.now.net c.args.comparison.now.care.now v
counted c v long =
    let net = c.args.comparison.now.looped.now.net in
    let w = by_variable c.args.comparison.now.order.now v in
    grind (arith, state-values net c.args.d.now c.args.rails.now c.inputs-first.result v w, values_of-kept c.invariant_on.ensures.grows.keeps c.args.rails.now c.requires.columns.proper w)

pub returns-clause-told : goal.returns-clause-told
returns-clause-told g =
    let c : After-and = (goal.at.returns-clause-told g).After-and in
    IfOk-both g.and.result (λ set node function. record {
      node = node;
      value = λ v wide. function (by_variable g.args.comparison.now.order.now v) ∙ counted c v (wide ∙ g.and.ensures.grows.keeps.vars ∙ g.assume_on.ensures.grows.keeps.vars ∙ g.invariant_on.ensures.grows.keeps.vars);
    }) g.and.ensures.node g.and.ensures.function

-- ---- what it does to the diagrams, call by call

after-inside : (c : After-invariant_on) → let l = c.args.comparison.now in
    GrowsWithin c.invariant_on.result c.args.d.now c.invariant_on.new.d (HasModelOver l.care.now) (IsWide (columns l.looped.now.net) (IsLaidBy l.order.now l.looped.now.net l.care.now)) (2 * invariant_effort l.care.now)
after-inside c =
    let l = c.args.comparison.now in
    let rails = c.args.rails.now in
    let first = rw c.net.ensures.net at c.inputs-first.ensures.inputs in
    within_moved (λ w wide.
    invariant-bounded (comparison_list l.looped.now.net l.care.now) l.order.now c.requires.vars (comparison-wide l.order.now l.looped.now.net l.care.now l.laid c.requires.vars wide) (values_of c.args.d.now (take (length rails - c.inputs-first.result) (drop c.inputs-first.result rails)))
    (λ v long. state-values l.looped.now.net c.args.d.now rails c.inputs-first.result v (by_variable l.order.now v) first (c.requires.columns.values v long))) c.invariant_on.ensures.grows

after-allowed : (c : After-assume_on) → let l = c.args.comparison.now in
    GrowsWithin c.invariant_on.result c.args.d.now c.invariant_on.new.d (HasModelOver l.care.now) (IsWide (columns l.looped.now.net) (IsLaidBy l.order.now l.looped.now.net l.care.now)) (2 * invariant_effort l.care.now) →
    GrowsWithin c.assume_on.result c.args.d.now c.assume_on.new.d (HasModelOver l.care.now) (IsWide (columns l.looped.now.net) (IsLaidBy l.order.now l.looped.now.net l.care.now)) (2 * invariant_effort l.care.now + 2 * assume_effort l.care.now)
after-allowed c before =
    let l = c.args.comparison.now in
    let keeps = c.invariant_on.ensures.grows.keeps in
    within_then before (within_moved (λ w wide.
    assume-bounded (comparison_list l.looped.now.net l.care.now) l.order.now (keeps.vars ∙ c.requires.vars) (comparison-wide l.order.now l.looped.now.net l.care.now l.laid (keeps.vars ∙ c.requires.vars) wide) (values_of c.invariant_on.new.d c.args.rails.now)
    (λ v long. values_of-kept keeps c.args.rails.now c.requires.columns.proper (by_variable l.order.now v) ∙ c.requires.columns.values v (long ∙ keeps.vars))) c.assume_on.ensures.grows)

pub returns-in_err-inside-clause-grows : goal.returns-in_err-inside-clause-grows
returns-in_err-inside-clause-grows g = within_more (omega arith) (within_refused g.in_err-inside.was g.from_residual.ensures.1 (after-inside (goal.at.returns-in_err-inside-clause-grows g).After-invariant_on))

pub returns-in_err-allowed-clause-grows : goal.returns-in_err-allowed-clause-grows
returns-in_err-allowed-clause-grows g =
    let at = goal.at.returns-in_err-allowed-clause-grows g in
    within_more (omega arith) (within_refused g.in_err-allowed.was g.from_residual-in_err-allowed.ensures.1 (after-allowed at.After-assume_on (after-inside at.After-invariant_on)))

-- the set is that of the care vectors
pub returns-clause-grows : goal.returns-clause-grows
returns-clause-grows g =
    let at = goal.at.returns-clause-grows g in
    let l = g.args.comparison.now in
    let keeps = KeepsNodes-chain g.invariant_on.ensures.grows.keeps g.assume_on.ensures.grows.keeps in
    within_then (after-allowed at.After-assume_on (after-inside at.After-invariant_on)) (within_only (within_one (λ w wide.
    wide-one (comparison-wide l.order.now l.looped.now.net l.care.now l.laid (keeps.vars ∙ g.requires.vars) wide) (conjunction g.assume_on.new.d g.in_ok-inside.inside g.in_ok-allowed.allowed)
    (made-listed (SaysCare (λ v. refl)) (λ v long. counted at.After-and v (long ∙ sym g.requires.vars)))) g.and.ensures.grows))
