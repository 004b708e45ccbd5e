use Rattle.std.proofs.Common.{◌+◌, ◌*◌, ◌<◌, length, refl, ap, arith, ◌∙◌}
use Rattle.std.proofs.lemmas.List.Elements.{All-nil}
use Rattle.bdd_store.proofs.GrowthLemmas.{nothing_grown}
use Rattle.diagram_decision.proofs.Common.{AreRailsOf, rails_at-proper, within_then, within_moved, within_only, within_more, within_answered, within_refused, within_memory, GrowsInDecision, AreFixed, count}
use Rattle.diagram_decision.proofs.DecisionLemmas.{known-bounded, wide-kept}
use Rattle.diagram_decision.proofs.NextLemmas.{next-all, next-more, source-within}
use Rattle.diagram_decision.proofs.PartLemmas.{AreFixed-kept, Tells-kept}
use Rattle.diagram_decision.proofs.next.next_on.Goals as goal
use Rattle.diagram_decision.proofs.next.next_on.Goals.{After-restricted}

fixed : (c : After-restricted) → AreFixed c.args.question.now.net c.args.d.now c.items-rails.result.now
fixed c = rw c.items-rails.ensures c.requires.fixed

within : (c : After-restricted) → c.latch.result.now.from.0 < count c.args.question.now.net
within c = source-within c.args.question.now.net c.loop-number.number c.latch.result.now (rw c.net-net.ensures.net at c.latch.ensures.valid) (rw c.net-net.ensures.net at c.latch.ensures.latch)

pub bounds-rails-latch : goal.bounds-rails-latch
bounds-rails-latch c =
    let source = source-within c.args.question.now.net c.loop-number.number c.latch.result.now (rw c.net-net.ensures.net at c.latch.ensures.valid) (rw c.net-net.ensures.net at c.latch.ensures.latch) in
    omega (arith, source, c.requires.fixed.width, ap length c.items-rails.ensures)

pub restricted-requires-clause-set : goal.restricted-requires-clause-set
restricted-requires-clause-set c = (Tells-kept c.loop-number.invariant.grows.keeps c.requires.set).node

pub restricted-requires-clause-rails : goal.restricted-requires-clause-rails
restricted-requires-clause-rails c =
    let fixed : AreFixed c.args.question.now.net c.args.d.now c.items-rails.result.now = rw c.items-rails.ensures c.requires.fixed in
    rails_at-proper c.loop-number.d c.items-rails.result.now (AreFixed-kept c.loop-number.invariant.grows.keeps fixed).proper c.latch.result.now.from.0

pub loop-number-init : goal.loop-number-init
loop-number-init c = record { grows = nothing_grown; first = rw c.new-list.ensures.items (record { width = refl; proper = All-nil (AreRailsOf c.args.d.now); values = λ v wide. refl }) }

-- one latch more
step : (c : After-restricted) → GrowsInDecision c.restricted.result c.args.d.now c.restricted.new.d c.args.question.now.net c.args.question.now.care (2 * c.loop-number.number + 2)
step c =
    let q = c.args.question.now in
    let keeps = c.loop-number.invariant.grows.keeps in
    within_then c.loop-number.invariant.grows (within_only (within_moved (λ w wide.
    known-bounded q.net q.care c.loop-number.d c.items-rails.result.now (keeps.vars ∙ c.requires.vars) (AreFixed-kept keeps (fixed c)) c.latch.result.now.from.0 (within c) c.args.found.now.set (Tells-kept keeps c.requires.set) (wide-kept keeps wide)) c.restricted.ensures.grows))

pub loop-number-preserved : goal.loop-number-preserved
loop-number-preserved c =
    let q = c.args.question.now in
    let keeps = c.loop-number.invariant.grows.keeps in
    let before : After-restricted = (goal.at.loop-number-preserved c).After-restricted in
    let valid = rw c.net-net.ensures.net at c.latch.ensures.valid in
    let latch = rw c.net-net.ensures.net at c.latch.ensures.latch in
    record {
      grows = within_more (omega arith) (within_answered (step before));
      first = rw c.in_ok-push.ensures.items
          (next-more q.net c.args.d.now c.loop-number.d c.args.found.now.set c.items-rails.result.now c.loop-number.number c.latch.result.now valid c.requires.set.node keeps (fixed before) latch
          c.restricted.new.d c.loop-number.list.items c.in_ok-made.made c.restricted.ensures.grows.keeps c.loop-number.invariant.first c.in_ok-made.ensures.rails c.in_ok-made.ensures.value);
    }

pub returns-in_err-push-clause-grows : goal.returns-in_err-push-clause-grows
returns-in_err-push-clause-grows c =
    let inside = rw c.net-net.ensures.net at c.latches-number-end.ensures.latches in
    within_more (omega (arith, c.loop-number-test.true, inside)) (within_refused {U = Unit} refl c.from_residual-in_err-push.ensures.1 (within_memory (step (goal.at.returns-in_err-push-clause-grows c).After-restricted)))

pub returns-in_err-made-clause-grows : goal.returns-in_err-made-clause-grows
returns-in_err-made-clause-grows c =
    let inside = rw c.net-net.ensures.net at c.latches-number-end.ensures.latches in
    within_more (omega (arith, c.loop-number-test.true, inside)) (within_refused c.in_err-made.was c.from_residual.ensures.1 (step (goal.at.returns-in_err-made-clause-grows c).After-restricted))

pub returns-clause-grows : goal.returns-clause-grows
returns-clause-grows c =
    let inside = rw c.net-net.ensures.net at c.latches-number-end.ensures.latches in
    within_more (omega (arith, c.loop-number.auto.number-end, inside)) (within_answered c.loop-number.invariant.grows)

pub returns-clause-values : goal.returns-clause-values
returns-clause-values c =
    let latches = rw c.net-net.ensures.net at c.latches-number-end.ensures.latches in
    next-all c.args.question.now.net c.args.d.now c.loop-number.d c.args.found.now.set c.loop-number.number c.loop-number.list.items (omega (arith, c.loop-number-test.false, latches)) c.loop-number.invariant.first
