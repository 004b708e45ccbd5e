use Rattle.std.proofs.Common.{◌≡◌, ◌∙◌, ◌+◌, ◌*◌, ◌||◌, ℕ, length, take, get_or, refl, sym, arith}
use Rattle.equal.proofs.Common.{find, GrowsWithin, NoOtherCause, within_moved, within_then, within_more, within_answered, within_refused, by_variable, vectors, find-alike, AreRailsOf, rails_at, rails_at-proper, Pair, some_differ, BoundsPairs}
use Rattle.std.proofs.lemmas.List.Folds.{list_any_more}
use Rattle.bdd_store.proofs.GrowthLemmas.{nothing_grown}
use Rattle.cyc_base.proofs.VectorLemmas.{find-none}
use Rattle.equal.specs.Sets.{differ, pair_differs}
use Rattle.equal.proofs.PartingLemmas.{differ-kept, first-same, pair-kept}
use Rattle.equal.proofs.parting.least_of_pairs.Goals as goal
use Rattle.equal.proofs.parting.least_of_pairs.Goals.{After-least_of_pair, In_ok-found}

-- ---- what a pair costs

-- the pair that is looked at
abbrev pair_at : After-least_of_pair → Pair
pair_at c = get_or c.args.pairs.now c.loop-pair.pair-index (record { here = record { 0 = 0 }; there = record { 0 = 0 } })

step : (c : After-least_of_pair) → GrowsWithin c.least_of_pair.result c.args.d.now c.least_of_pair.new.d NoOtherCause (BoundsPairs c.args.d.now c.args.set c.args.rails.now c.args.pairs.now) (4 * c.loop-pair.pair-index + 4)
step c =
    let d = c.args.d.now in
    let rails = c.args.rails.now in
    let proper : (s : ℕ) → AreRailsOf d (rails_at rails s) = rails_at-proper d rails c.requires.rails in
    within_then c.loop-pair.invariant.grows
    (within_moved (λ w bounds.
    pair-kept c.loop-pair.invariant.grows.keeps c.args.set c.requires.set (rails_at rails (pair_at c).here.0) (rails_at rails (pair_at c).there.0) (proper (pair_at c).here.0) (proper (pair_at c).there.0)
    (bounds c.loop-pair.pair-index (record { here = record { 0 = 0 }; there = record { 0 = 0 } }) c.loop-pair-test.true)) c.least_of_pair.ensures.grows)

-- so many at most
all-pairs : (c : After-least_of_pair) → GrowsWithin c.least_of_pair.result c.args.d.now c.least_of_pair.new.d NoOtherCause (BoundsPairs c.args.d.now c.args.set c.args.rails.now c.args.pairs.now) (4 * length c.args.pairs.now)
all-pairs c = grind (arith, within_more, step c)

pub returns-in_err-found-clause-grows : goal.returns-in_err-found-clause-grows
returns-in_err-found-clause-grows c = within_refused c.in_err-found.was c.from_residual.ensures.1 (all-pairs ((goal.at.returns-in_err-found-clause-grows c).After-least_of_pair))

-- ---- the least vector so far

-- that of one pair, by the diagrams as they were
found-first : (c : In_ok-found) → (pair : Pair) → pair ≡ get_or c.args.pairs.now c.loop-pair.pair-index (record { here = record { 0 = 0 }; there = record { 0 = 0 } }) →
    find (λ v. differ c.loop-pair.d c.args.set (rails_at c.args.rails.now pair.here.0) (rails_at c.args.rails.now pair.there.0) (by_variable c.args.order.now v)) (vectors c.loop-pair.d.vars)
    ≡ find (λ v. pair_differs c.args.d.now c.args.set c.args.rails.now (by_variable c.args.order.now v) pair) (vectors c.args.d.now.vars)
found-first c pair is =
    let d = c.args.d.now in
    let rails = c.args.rails.now in
    let keeps = c.loop-pair.invariant.grows.keeps in
    grind (arith, rails_at-proper d rails c.requires.rails, first-same c.loop-pair.d.vars d.vars, differ-kept keeps c.args.set c.requires.set (rails_at rails pair.here.0) (rails_at rails pair.there.0))

pub loop-pair-init : goal.loop-pair-init
loop-pair-init c = grind (arith, find-none c.args.d.now.vars, nothing_grown)

pub loop-pair-preserved : goal.loop-pair-preserved
loop-pair-preserved c =
    let d = c.args.d.now in
    let pairs = c.args.pairs.now in
    let rails = c.args.rails.now in
    let i : ℕ = c.loop-pair.pair-index in
    let none : Pair = record { here = record { 0 = 0 }; there = record { 0 = 0 } } in
    let at = goal.at.loop-pair-preserved c in
    record {
      least =
          c.lesser-least.ensures d.vars (λ v. some_differ d c.args.set rails (take i pairs) (by_variable c.args.order.now v)) (λ v. pair_differs d c.args.set rails (by_variable c.args.order.now v) (get_or pairs i none))
          c.loop-pair.invariant.least
          (c.in_ok-found.ensures.least ∙ found-first at.In_ok-found (get_or pairs i none) refl)
          ∙ sym (find-alike d.vars (λ v. some_differ d c.args.set rails (take (i + 1) pairs) (by_variable c.args.order.now v))
          (λ v. some_differ d c.args.set rails (take i pairs) (by_variable c.args.order.now v) || pair_differs d c.args.set rails (by_variable c.args.order.now v) (get_or pairs i none))
          (λ v long. list_any_more (pair_differs d c.args.set rails (by_variable c.args.order.now v)) pairs i none c.loop-pair-test.true));
      grows = within_more (omega arith) (within_answered (step at.After-least_of_pair));
    }
