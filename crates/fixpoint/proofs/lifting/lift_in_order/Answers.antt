use Rattle.std.proofs.Common.{◌≡◌, ◌+◌, ◌*◌, ℕ, get_or, take, refl, sym, subst, length, arith}
use Rattle.fixpoint.proofs.Common.{sum_by_more, GrowsWithin, within_then, within_moved, within_more, within_refused, within_answered, size, BoundsEach, gate_at, AreLifted, BoundsGate, Vectors, no_loops, IsGatePart, HasLargeCover, cost, order_cost}
use Rattle.bdd_store.proofs.GrowthLemmas.{KeepsNodes-chain}
use Rattle.fixpoint.proofs.EffortLemmas.{part-effort, next-effort}
use Rattle.fixpoint.proofs.LiftLemmas.{rails-set, gate-bounded, lifted-more, lifted-end}
use Rattle.fixpoint.proofs.lifting.lift_in_order.Goals as goal
use Rattle.fixpoint.proofs.lifting.lift_in_order.Goals.{After-lift_gate}

-- what the lift of the next gate works with
bounded : (c : After-lift_gate) (v : Vectors) (w : ℕ) → AreLifted c.args.net.now c.args.order.now c.args.d.now v 0 c.args.rails.now →
    BoundsEach c.args.d.now.vars (IsGatePart c.args.net.now no_loops v) w →
    BoundsGate c.args.net.now c.loop-gate.d c.loop-gate.rails (get_or c.args.order.now c.loop-gate.gate-index 0) w
bounded c v w start bounds =
    let order = c.args.order.now in
    gate-bounded c.args.net.now c.lift_gate.ensures.valid order c.requires.order c.loop-gate.d c.loop-gate.rails v c.loop-gate.gate-index (get_or order c.loop-gate.gate-index 0)
    c.loop-gate-test.true refl (c.loop-gate.invariant.lifted v start)
    (subst (λ n. BoundsEach n (IsGatePart c.args.net.now no_loops v) w) (sym c.loop-gate.invariant.keeps.vars) bounds)

-- and what it does
step : (c : After-lift_gate) (v : Vectors) → AreLifted c.args.net.now c.args.order.now c.args.d.now v 0 c.args.rails.now →
    GrowsWithin c.lift_gate.result c.args.d.now c.lift_gate.new.d (HasLargeCover c.args.net.now) (BoundsEach c.args.d.now.vars (IsGatePart c.args.net.now no_loops v))
    (2 * order_cost c.args.net.now (take c.loop-gate.gate-index c.args.order.now) + 2 * size (gate_at c.args.net.now (get_or c.args.order.now c.loop-gate.gate-index 0)).cover)
step c v start = within_then (c.loop-gate.invariant.grows v start) (within_moved (λ w bounds. bounded c v w start bounds) c.lift_gate.ensures.grows)

pub loop-gate-preserved : goal.loop-gate-preserved
loop-gate-preserved c =
    let net = c.args.net.now in
    let order = c.args.order.now in
    let i = c.loop-gate.gate-index in
    let gate : ℕ = get_or order i 0 in
    let keeps = c.lift_gate.ensures.grows.keeps in
    record {
      keeps = KeepsNodes-chain c.loop-gate.invariant.keeps keeps;
      wires = rails-set gate keeps c.loop-gate.invariant.wires c.in_ok-lift_gate.ensures.set;
      lifted = λ v start. lifted-more net c.lift_gate.ensures.valid order c.requires.order c.loop-gate.d c.loop-gate.rails v i gate c.loop-gate-test.true refl (c.loop-gate.invariant.lifted v start)
          c.lift_gate.new.d keeps c.lift_gate.new.rails c.in_ok-lift_gate.ensures.set;
      grows = λ v start. within_more (omega (arith, sum_by_more (cost net) order i 0 c.loop-gate-test.true)) (within_answered (step ((goal.at.loop-gate-preserved c).After-lift_gate) v start));
    }

pub returns-clause-values : goal.returns-clause-values
returns-clause-values c v start =
    let all : c.loop-gate.gate-index ≡ length c.args.order.now = omega (arith, c.loop-gate-test.false, c.loop-gate.auto.gate-index-end) in
    lifted-end c.args.net.now c.args.order.now c.loop-gate.d v c.loop-gate.rails c.requires.order
    (subst (λ i. AreLifted c.args.net.now c.args.order.now c.loop-gate.d v i c.loop-gate.rails) all (c.loop-gate.invariant.lifted v start))

pub returns-clause-grows : goal.returns-clause-grows
returns-clause-grows c v start =
    within_more (omega (arith, part-effort c.args.net.now c.args.order.now c.requires.order c.loop-gate.gate-index)) (within_answered (c.loop-gate.invariant.grows v start))

pub returns-in_err-lift_gate-clause-grows : goal.returns-in_err-lift_gate-clause-grows
returns-in_err-lift_gate-clause-grows c v start =
    within_more (omega (arith, next-effort c.args.net.now c.args.order.now c.requires.order c.loop-gate.gate-index c.loop-gate-test.true))
    (within_refused c.in_err-lift_gate.was c.from_residual.ensures.1 (step ((goal.at.returns-in_err-lift_gate-clause-grows c).After-lift_gate) v start))
