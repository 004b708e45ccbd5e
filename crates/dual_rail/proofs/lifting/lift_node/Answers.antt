use Rattle.std.proofs.Common.{arith}
use Rattle.dual_rail.proofs.Common.{All, den, selection, AreRailsOf, function, IsFork, BoundsEach, IsExtended}
use Rattle.bdd_store.specs.Growth.{GrowsWithin, NoOtherCause}
use Rattle.bdd_store.proofs.GrowthLemmas.{within_one, within_then, within_more, within_refused, within_answered}
use Rattle.dual_rail.proofs.SurelyLemmas.{All-rails-kept, IsSurely-made, IsSurely-kept}
use Rattle.dual_rail.proofs.TableLemmas.{IsTable-kept}
use Rattle.dual_rail.proofs.WidthLemmas.{one-nodes, zero-nodes, BoundsEach-kept}
use Rattle.dual_rail.proofs.lifting.lift_node.Goals as goal
use Rattle.dual_rail.proofs.lifting.lift_node.Goals.{After-select-2}

both : (c : After-select-2) → GrowsWithin c.select-2.result c.args.d.now c.select-2.new.self NoOtherCause (BoundsEach c.args.d.now.vars (IsExtended c.args.d.now c.args.pins.now (function c.args.local.now))) 2
both c =
    let keeps = c.select.ensures.grows.keeps in
    let rails : All (AreRailsOf c.select.new.self) c.args.pins.now = All-rails-kept keeps c.args.pins.now c.requires.rails in
    let fork : IsFork c.select.new.self c.args.pins.now (den c.args.local.now.store c.args.node) c.fork_at-fork.result = c.fork_at-fork.ensures.fork c.select.new.self (IsTable-kept keeps c.requires.rails c.requires.table) rails in
    within_then
    (within_one (λ w bounds. one-nodes c.args.local.now c.args.node c.requires.pins c.fork_at-fork.ensures.part (c.fork_at-fork.ensures.fork c.args.d.now c.requires.table c.requires.rails) bounds) c.select.ensures.grows)
    (within_one (λ w bounds. zero-nodes c.args.local.now c.args.node c.requires.pins c.fork_at-fork.ensures.part fork (BoundsEach-kept keeps c.requires.rails bounds)) c.select-2.ensures.grows)

pub returns-in_err-one-clause-grows : goal.returns-in_err-one-clause-grows
returns-in_err-one-clause-grows c =
    within_more (omega arith) (within_refused c.in_err-one.was c.from_residual.ensures.1
    (within_one (λ w bounds. one-nodes c.args.local.now c.args.node c.requires.pins c.fork_at-fork.ensures.part (c.fork_at-fork.ensures.fork c.args.d.now c.requires.table c.requires.rails) bounds) c.select.ensures.grows))

pub returns-in_err-zero-clause-grows : goal.returns-in_err-zero-clause-grows
returns-in_err-zero-clause-grows c = within_refused c.in_err-zero.was c.from_residual-in_err-zero.ensures.1 (both ((goal.at.returns-in_err-zero-clause-grows c).After-select-2))

pub returns-clause-grows : goal.returns-clause-grows
returns-clause-grows c = within_answered (both ((goal.at.returns-clause-grows c).After-select-2))

pub returns-clause-lift : goal.returns-clause-lift
returns-clause-lift c =
    let keeps = c.select.ensures.grows.keeps in
    let rails : All (AreRailsOf c.select.new.self) c.args.pins.now = All-rails-kept keeps c.args.pins.now c.requires.rails in
    let fork : IsFork c.args.d.now c.args.pins.now (den c.args.local.now.store c.args.node) c.fork_at-fork.result = c.fork_at-fork.ensures.fork c.args.d.now c.requires.table c.requires.rails in
    let kept : IsFork c.select.new.self c.args.pins.now (den c.args.local.now.store c.args.node) c.fork_at-fork.result = c.fork_at-fork.ensures.fork c.select.new.self (IsTable-kept keeps c.requires.rails c.requires.table) rails in
    record {
      one = IsSurely-kept c.select-2.ensures.grows.keeps rails (IsSurely-made {k = selection c.args.d.now c.fork_at-fork.result.pin.one c.fork_at-fork.result.pin.zero c.fork_at-fork.result.hi.one c.fork_at-fork.result.lo.one} c.requires.rails keeps c.in_ok-one.ensures.node c.in_ok-one.ensures.function fork.one);
      zero = IsSurely-made {k = selection c.select.new.self c.fork_at-fork.result.pin.one c.fork_at-fork.result.pin.zero c.fork_at-fork.result.hi.zero c.fork_at-fork.result.lo.zero} rails c.select-2.ensures.grows.keeps c.in_ok-zero.ensures.node c.in_ok-zero.ensures.function kept.zero;
    }
