use Rattle.std.proofs.Common.{◌≡◌, ℕ, ◌+◌, ◌-◌, ◌<◌, ◌≤◌, ◌∙◌, Bool, List, length, drop, get_or, sym, ap, ap₂, arith, false, ◌&&◌}
use Rattle.std.specs.Prelude.{slice_get, Some}
use Rattle.diagram_decision.proofs.Common.{GrowsWithin, NoOtherCause, nodes, within_one, within_then, within_more, within_answered, within_refused, conjunction, Rails, AreRailsOf, order, order-is, rails_at, rails_at-proper, columns, AreColumns, BoundsStarts, AreColumns-kept, get_or_from_slice_get, laid, Latch, value_of, slice_get_within}
use Rattle.std.proofs.lemmas.List.{drop_all}
use Rattle.refusals.specs.Refusals.{may_start}
use Rattle.fixpoint.proofs.LayoutLemmas.{length-by_variable}
use Rattle.bdd_store.proofs.GrowthLemmas.{nothing_grown}
use Rattle.diagram_decision.proofs.StartLemmas.{all_may_start_at, may_start_at, input-may, latch-may, later-nodes, next_column, starts-laid, variable-bit}
use Rattle.diagram_decision.proofs.initial.starts_on.Goals as goal
use Rattle.diagram_decision.proofs.initial.starts_on.Goals.{After-and}

variable-inside : (c : After-and) → c.loop-variable.variable - 1 < columns c.args.net.now
variable-inside c = omega (arith, c.loop-variable-test.true, c.loop-variable.auto.variable, c.inputs-first.ensures.inputs, c.columns-variable.ensures.columns)

-- the column of the variable
column-is : (c : After-and) → get_or c.args.order.now (c.loop-variable.variable - 1) 0 ≡ get_or (order c.args.net.now) (c.loop-variable.variable - 1) 0
column-is c = ap (λ (xs : List ℕ). get_or xs (c.loop-variable.variable - 1) 0) c.requires.order

-- ---- the variables and their columns

pub loop-variable-init : goal.loop-variable-init
loop-variable-init c =
    let n : ℕ = c.columns-variable.result in
    let none = drop_all n (order c.args.net.now) (omega (arith, c.columns-variable.ensures.columns, (order-is c.args.net.now).long)) in
    record {
      grows = nothing_grown;
      later = record { node = c.of-set.ensures.node c.args.d.now; value = λ w wide. c.of-set.ensures.value c.args.d.now w ∙ sym (ap (λ cs. all_may_start_at c.args.net.now cs (drop n w)) none) };
    }

pub bounds-order-variable : goal.bounds-order-variable
bounds-order-variable c =
    let net = c.args.net.now in
    omega (arith, c.loop-variable-test.true, c.loop-variable.auto.variable, c.columns-variable.ensures.columns, ap length c.requires.order, (order-is net).long)

pub latch-requires : goal.latch-requires
latch-requires c =
    let k : ℕ = c.loop-variable.variable - 1 in
    let inside : k < columns c.args.net.now = omega (arith, c.loop-variable-test.true, c.loop-variable.auto.variable, c.columns-variable.ensures.columns) in
    let within = (order-is c.args.net.now).within k inside in
    let same = ap (λ (xs : List ℕ). get_or xs k 0) c.requires.order in
    omega (arith, within, same, c.if-column-first.true, c.inputs-first.ensures.inputs)

pub bounds-rails-column : goal.bounds-rails-column
bounds-rails-column c =
    let k : ℕ = c.loop-variable.variable - 1 in
    let inside : k < columns c.args.net.now = omega (arith, c.loop-variable-test.true, c.loop-variable.auto.variable, c.columns-variable.ensures.columns) in
    let within = (order-is c.args.net.now).within k inside in
    let same = ap (λ (xs : List ℕ). get_or xs k 0) c.requires.order in
    omega (arith, within, same, c.requires.columns.width, c.requires.vars)

-- ---- the latch and those after it, and what this adds

both : (c : After-and) → (w : List Bool) → length w ≡ c.loop-variable.d.vars →
    conjunction c.loop-variable.d c.may_start_on-latch.result c.loop-variable.set w ≡ all_may_start_at c.args.net.now (drop (c.loop-variable.variable - 1) (order c.args.net.now)) (drop (c.loop-variable.variable - 1) w)
both c w wide =
    let net = c.args.net.now in
    let k : ℕ = c.loop-variable.variable - 1 in
    let d = c.loop-variable.d in
    let keeps = c.loop-variable.invariant.grows.keeps in
    let vars : d.vars ≡ columns net = keeps.vars ∙ c.requires.vars in
    let inside = variable-inside c in
    let are : AreColumns d (order net) c.args.rails.now = AreColumns-kept keeps c.requires.columns in
    let column : Rails = rails_at c.args.rails.now (get_or c.args.order.now k 0) in
    let proper : AreRailsOf d column = rails_at-proper d c.args.rails.now are.proper (get_or c.args.order.now k 0) in
    let first = c.inputs-first.ensures.inputs in
    let same = column-is c in
    let i : ℕ = get_or (order net) k 0 - length net.inputs in
    let place : length net.inputs + i ≡ get_or (order net) k 0 = omega (arith, c.if-column-first.true, first, same) in
    let latch = c.latch.result.now in
    let found : slice_get net.latches i ≡ Some latch = ap (slice_get net.latches) (sym (ap₂ (λ x y. x - y) same first)) ∙ c.latch.ensures.latch in
    ap₂ (λ x y. x && y)
    (c.may_start_on-latch.ensures.value d (get_or w k false) w proper (ap (λ (r : Rails). value_of d r w) (ap (rails_at c.args.rails.now) same) ∙ variable-bit net d c.args.rails.now k w vars are inside wide)
    ∙ sym (ap (λ n. may_start_at net n (get_or w k false)) (sym place) ∙ latch-may net i latch (get_or w k false) (slice_get_within net.latches i latch found)
    ∙ ap (λ (l : Latch). may_start l.init (get_or w k false)) (get_or_from_slice_get net.latches i latch latch found)))
    (c.loop-variable.invariant.later.value w wide)
    ∙ sym (next_column net w c.loop-variable.variable k (omega (arith, c.loop-variable-test.true)) inside (wide ∙ vars))

fits-one : (c : After-and) (w : ℕ) → BoundsStarts c.args.net.now w → nodes c.loop-variable.d.vars (conjunction c.loop-variable.d c.may_start_on-latch.result c.loop-variable.set) ≤ w
fits-one c w fits =
    let inside = variable-inside c in
    later-nodes c.args.net.now c.loop-variable.d c.loop-variable.set c.may_start_on-latch.result (c.loop-variable.variable - 1) w (omega (arith, inside)) (c.loop-variable.invariant.grows.keeps.vars ∙ c.requires.vars) (both c) fits

one-more : (c : After-and) → columns c.args.net.now - c.loop-variable.variable + 1 ≤ columns c.args.net.now - (c.loop-variable.variable - 1)
one-more c = let inside = variable-inside c in omega (arith, c.loop-variable-test.true, c.loop-variable.auto.variable, inside, c.inputs-first.ensures.inputs, c.columns-variable.ensures.columns)

step : (c : After-and) → GrowsWithin c.and.result c.args.d.now c.and.new.self NoOtherCause (BoundsStarts c.args.net.now) (columns c.args.net.now - (c.loop-variable.variable - 1))
step c = within_more (one-more c) (within_then c.loop-variable.invariant.grows (within_one (fits-one c) c.and.ensures.grows))

pub loop-variable-preserved-then-column-first : goal.loop-variable-preserved-then-column-first
loop-variable-preserved-then-column-first g =
    let c : After-and = (goal.at.loop-variable-preserved-then-column-first g).After-and in
    record {
      grows = within_answered (step c);
      later = record { node = g.in_ok-set.ensures.node; value = λ w wide. g.in_ok-set.ensures.function w ∙ both c w (wide ∙ c.and.ensures.grows.keeps.vars) };
    }

-- an input's column stands for all
pub loop-variable-preserved : goal.loop-variable-preserved
loop-variable-preserved c =
    let net = c.args.net.now in
    let k : ℕ = c.loop-variable.variable - 1 in
    let before = c.loop-variable.invariant in
    let inside : k < columns net = omega (arith, c.loop-variable-test.true, c.loop-variable.auto.variable, c.inputs-first.ensures.inputs, c.columns-variable.ensures.columns) in
    let same = ap (λ (xs : List ℕ). get_or xs k 0) c.requires.order in
    let low : get_or (order net) k 0 < length net.inputs = omega (arith, same, c.if-column-first.false, c.inputs-first.ensures.inputs) in
    record {
      grows = within_more (omega arith) before.grows;
      later = record {
        node = before.later.node;
        value = λ w wide.
            before.later.value w wide
            ∙ sym (next_column net w c.loop-variable.variable k (omega (arith, c.loop-variable-test.true)) inside (wide ∙ before.grows.keeps.vars ∙ c.requires.vars)
            ∙ ap (λ t. t && all_may_start_at net (drop c.loop-variable.variable (order net)) (drop c.loop-variable.variable w)) (input-may net (get_or (order net) k 0) (get_or w k false) low));
      };
    }

pub returns-clause-starts : goal.returns-clause-starts
returns-clause-starts c =
    let net = c.args.net.now in
    let vars = c.loop-variable.invariant.grows.keeps.vars ∙ c.requires.vars in
    let none : c.loop-variable.variable ≡ 0 = omega (arith, c.loop-variable-test.false) in
    record {
      node = c.loop-variable.invariant.later.node;
      value = λ v wide.
          c.loop-variable.invariant.later.value (laid net v) (omega (arith, length-by_variable (order net) v, (order-is net).long, vars))
          ∙ ap (λ j. all_may_start_at net (drop j (order net)) (drop j (laid net v))) none
          ∙ starts-laid net v (wide ∙ vars);
    }

-- ---- what it does to the diagrams

pub returns-in_err-set-clause-grows : goal.returns-in_err-set-clause-grows
returns-in_err-set-clause-grows g = within_more (omega arith) (within_refused g.in_err-set.was g.from_residual.ensures.1 (step (goal.at.returns-in_err-set-clause-grows g).After-and))

pub returns-clause-grows : goal.returns-clause-grows
returns-clause-grows c = within_more (omega arith) (within_answered c.loop-variable.invariant.grows)
