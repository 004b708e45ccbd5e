use Rattle.std.proofs.Common.{◌+◌, ◌*◌, ◌≤◌, ◌∙◌, take, arith, ℕ, length, filter, get_or}
use Rattle.fixpoint.proofs.Common.{HasLargeCover, sum_by_more, sum_by-take-le, GrowsWithin, within_then, within_moved, within_more, within_refused, within_answered, size, IsWide, gate_at, block_at, is_cut, loops_by, Looped, Vectors, IsSweepable, after_sweeps, IsWorking, cost, order_cost}
use Rattle.bdd_store.proofs.GrowthLemmas.{KeepsNodes-chain}
use Rattle.fixpoint.proofs.BoundLemmas.{sweep-bounds}
use Rattle.fixpoint.proofs.WireLemmas.{AreWires-set, given-set}
use Rattle.fixpoint.proofs.SweepLemmas.{sweeping-step, sweeping-end}
use Rattle.fixpoint.proofs.wires.Wires.sweep.Goals as goal
use Rattle.fixpoint.proofs.wires.Wires.sweep.Goals.{After-set_gate}

-- the next gate is set
step : (c : After-set_gate) (b k : ℕ) (v : Vectors) → IsSweepable c.args.looped.now c.args.d.now v (after_sweeps c.args.looped.now v k) b c.args.order.now c.args.self.now.before.items c.args.self.now.rails.items
    → k ≤ length (filter (is_cut c.args.looped.now.cut.wires) (block_at c.args.looped.now.blocks b).gates)
    → GrowsWithin c.set_gate.result c.args.d.now c.set_gate.new.d (HasLargeCover c.args.looped.now.net) (IsWide c.args.d.now.vars (IsWorking c.args.looped.now.net (loops_by c.args.looped.now.blocks c.args.looped.now.cut) v))
    (2 * order_cost c.args.looped.now.net (take c.loop-gate.gate-index c.args.order.now) + 2 * size (gate_at c.args.looped.now.net (get_or c.args.order.now c.loop-gate.gate-index 0)).cover)
step c b k v ready few =
    let inv = c.loop-gate.invariant in
    let far = inv.swept b v (after_sweeps c.args.looped.now v k) ready in
    within_then (inv.grows b k v ready few)
    (within_moved (λ w wide. sweep-bounds c.args.looped.now c.set_gate.ensures.valid b v k c.args.order.now c.loop-gate.d c.args.self.now.before.items c.loop-gate.self.rails.items far.0
    c.loop-gate.gate-index c.loop-gate-test.true far.1 few (rw (← inv.keeps.vars) at wide)) (rw inv.before at c.set_gate.ensures.grows))

pub loop-gate-init : goal.loop-gate-init
loop-gate-init c = grind arith

pub loop-gate-preserved : goal.loop-gate-preserved
loop-gate-preserved c =
    let l : Looped = c.args.looped.now in
    let order = c.args.order.now in
    let i = c.loop-gate.gate-index in
    let inside = c.loop-gate-test.true in
    let inv = c.loop-gate.invariant in
    let set = c.in_ok-set_gate.ensures.set in
    let keeps = c.set_gate.ensures.grows.keeps in
    record {
      keeps = KeepsNodes-chain inv.keeps keeps;
      grows = λ b k v ready few. within_more (omega (arith, sum_by_more (cost l.net) order i 0 inside)) (within_answered (step ((goal.at.loop-gate-preserved c).After-set_gate) b k v ready few));
      before = c.set_gate.ensures.before ∙ inv.before;
      wires = rw c.set_gate.ensures.before (AreWires-set (get_or order i 0) keeps inv.wires set);
      given = given-set (get_or order i 0) set ∙ inv.given;
      swept = sweeping-step l c.in_ok-set_gate.ensures.valid order c.args.d.now c.loop-gate.d c.set_gate.new.d c.args.self.now.before.items c.args.self.now.rails.items c.loop-gate.self.rails.items c.set_gate.new.self.rails.items i
          keeps inside (rw inv.before at set) inv.swept;
    }

pub returns-clause-swept : goal.returns-clause-swept
returns-clause-swept c b v states ready = sweeping-end c.args.looped.now c.args.order.now c.args.d.now c.loop-gate.d c.args.self.now.before.items c.args.self.now.rails.items c.loop-gate.self.rails.items c.loop-gate.gate-index c.loop-gate-test.false c.loop-gate.invariant.swept b v states ready

pub returns-clause-grows : goal.returns-clause-grows
returns-clause-grows c b k v ready few =
    within_more (omega (arith, sum_by-take-le (cost c.args.looped.now.net) c.args.order.now c.loop-gate.gate-index)) (within_answered (c.loop-gate.invariant.grows b k v ready few))

pub returns-in_err-set_gate-clause-grows : goal.returns-in_err-set_gate-clause-grows
returns-in_err-set_gate-clause-grows c b k v ready few =
    within_more (omega (arith, sum_by_more (cost c.args.looped.now.net) c.args.order.now c.loop-gate.gate-index 0 c.loop-gate-test.true, sum_by-take-le (cost c.args.looped.now.net) c.args.order.now (c.loop-gate.gate-index + 1)))
    (within_refused c.in_err-set_gate.was c.from_residual.ensures.1 (step ((goal.at.returns-in_err-set_gate-clause-grows c).After-set_gate) b k v ready few))

pub returns-clause-solved : goal.returns-clause-solved
returns-clause-solved c b v states ready = (c.loop-gate.invariant.swept b v states ready).0.solved
