use Rattle.std.proofs.Common.{◌*◌, ◌≤◌, ◌≡◌, ◌∙◌, ◌+◌, Bool, true, false, length, ap, arith}
use Rattle.fixpoint.proofs.Common.{HasLargeCover, GrowsWithin, within_then, within_moved, within_more, within_refused, within_answered, IsWide, loops_by, Vectors, vectors, IsWorking, order_cost, block_cost}
use Rattle.bdd_store.proofs.GrowthLemmas.{nothing_grown}
use Rattle.fixpoint.specs.Underway.{IsSweptOnce}
use Rattle.fixpoint.proofs.BoundLemmas.{cuts-few, order-few, loop-cost}
use Rattle.fixpoint.proofs.LoopLemmas.{underway-start}
use Rattle.fixpoint.proofs.sweeping.solve_loop.Goals as goal
use Rattle.fixpoint.proofs.sweeping.solve_loop.Goals.{After-sweep_once, In_ok-still}

pub returns-in_err-plan-clause-grows : goal.returns-in_err-plan-clause-grows
returns-in_err-plan-clause-grows c = grind arith

pub loop-steps-init : goal.loop-steps-init
loop-steps-init c =
    grind (arith, nothing_grown, underway-start c.args.looped.now c.in_ok-plan.ensures.are c.args.place c.requires.at (vectors c.args.looped.now.net c.args.d.now c.args.wires.now.rails.items) c.args.d.now c.in_ok-plan.plan.cuts c.args.wires.now.before.items c.args.wires.now.rails.items c.requires.solved c.requires.fresh)

-- one sweep more
grown : (c : After-sweep_once) → GrowsWithin c.sweep_once.result c.args.d.now c.sweep_once.new.d (HasLargeCover c.args.looped.now.net) (IsWide c.args.d.now.vars (IsWorking c.args.looped.now.net (loops_by c.args.looped.now.blocks c.args.looped.now.cut) (vectors c.args.looped.now.net c.args.d.now c.args.wires.now.rails.items)))
    (2 * (length c.loop-steps.steps.items * order_cost c.args.looped.now.net c.in_ok-plan.plan.order) + 2 * order_cost c.args.looped.now.net c.in_ok-plan.plan.order)
grown c =
    let v : Vectors = vectors c.args.looped.now.net c.args.d.now c.args.wires.now.rails.items in
    let inv = c.loop-steps.invariant in
    within_then inv.grows (within_moved (λ w wide. rw inv.grows.keeps.vars wide) (c.sweep_once.ensures.grows c.args.place v c.in_ok-plan.ensures inv.underway))

-- there are at most as many sweeps as cut wires and one, and the order has each gate once
most : (c : After-sweep_once) → 2 * (length c.loop-steps.steps.items * order_cost c.args.looped.now.net c.in_ok-plan.plan.order) + 2 * order_cost c.args.looped.now.net c.in_ok-plan.plan.order ≤ 2 * ((length c.args.looped.now.net.gates + 1) * block_cost c.args.looped.now.net c.args.looped.now.blocks c.args.place)
most c =
    let plan = c.in_ok-plan.ensures in
    let gates_few = cuts-few c.args.looped.now.net c.args.looped.now.blocks c.args.looped.now.cut c.in_ok-plan.ensures.are.blocks c.args.place c.requires.at in
    loop-cost (length c.loop-steps.steps.items) (length c.args.looped.now.net.gates) (order_cost c.args.looped.now.net c.in_ok-plan.plan.order) (block_cost c.args.looped.now.net c.args.looped.now.blocks c.args.place)
    (order-few c.args.looped.now.net c.args.looped.now.blocks c.args.looped.now.cut c.in_ok-plan.ensures.are.blocks c.args.place c.requires.at c.in_ok-plan.plan.order plan.order) (omega (arith, c.loop-steps.invariant.underway.few, ap length plan.cuts, gates_few))

pub returns-in_err-still-clause-grows : goal.returns-in_err-still-clause-grows
returns-in_err-still-clause-grows c =
    let at : After-sweep_once = (goal.at.returns-in_err-still-clause-grows c).After-sweep_once in
    within_refused c.in_err-still.was c.from_residual-in_err-still.ensures.1 (within_more (most at) (grown at))

pub returns-then-still-clause-grows : goal.returns-then-still-clause-grows
returns-then-still-clause-grows c =
    let at : After-sweep_once = (goal.at.returns-then-still-clause-grows c).After-sweep_once in
    within_answered (within_more (most at) (grown at))

-- what it left
left : (c : In_ok-still) (still : Bool) → c.in_ok-still.still ≡ still → IsSweptOnce c.args.looped.now c.sweep_once.new.d (vectors c.args.looped.now.net c.args.d.now c.args.wires.now.rails.items) c.args.place c.in_ok-plan.plan.cuts
    c.sweep_once.new.steps.items c.sweep_once.new.self.before.items c.sweep_once.new.self.rails.items still
left c still is = rw is at (c.in_ok-still.ensures.swept c.args.place (vectors c.args.looped.now.net c.args.d.now c.args.wires.now.rails.items) c.in_ok-plan.ensures c.loop-steps.invariant.underway)

pub returns-then-still-clause-solved : goal.returns-then-still-clause-solved
returns-then-still-clause-solved c = (left (goal.at.returns-then-still-clause-solved c).In_ok-still true c.if-still.true).solved

pub returns-then-still-clause-fresh : goal.returns-then-still-clause-fresh
returns-then-still-clause-fresh c = (left (goal.at.returns-then-still-clause-fresh c).In_ok-still true c.if-still.true).fresh

pub returns-then-still-clause-steps : goal.returns-then-still-clause-steps
returns-then-still-clause-steps c = rw c.of.ensures (left (goal.at.returns-then-still-clause-steps c).In_ok-still true c.if-still.true).steps_are

pub loop-steps-smaller : goal.loop-steps-smaller
loop-steps-smaller c = omega (arith, (left (goal.at.loop-steps-smaller c).In_ok-still false c.if-still.false).few, c.in_ok-still.ensures.longer)

pub loop-steps-preserved : goal.loop-steps-preserved
loop-steps-preserved c = record {
  grows = rw c.in_ok-still.ensures.longer (within_more (omega arith) (within_answered (grown (goal.at.loop-steps-preserved c).After-sweep_once)));
  given = c.in_ok-still.ensures.given ∙ c.loop-steps.invariant.given;
  underway = left (goal.at.loop-steps-preserved c).In_ok-still false c.if-still.false;
}
