use Rattle.std.proofs.Common.{◌+◌, arith, true≢false}
use Rattle.isolation.proofs.Common.{GrowsWithin, NoOtherCause, within_more, within_refused, within_answered, rails_at, unknown, BoundsKnown}
use Rattle.bdd_store.proofs.GrowthLemmas.{within_then, within_one}
use Rattle.isolation.proofs.UnknownLemmas.{known-next}
use Rattle.isolation.proofs.WidthLemmas.{known-kept}
use Rattle.isolation.proofs.settling.are_known.Goals as goal
use Rattle.isolation.proofs.settling.are_known.Goals.{After-is_known}

-- the next rails
step : (c : After-is_known) → GrowsWithin c.is_known.result c.args.d.now c.is_known.new.d NoOtherCause (BoundsKnown c.args.d.now c.args.rails.now) (c.loop-one.one-index + 1)
step c =
    let less = c.loop-one-test.true in
    within_then c.loop-one.invariant.grows
    (within_one (λ w bounds.
    let same = known-kept (rails_at c.args.rails.now c.loop-one.one-index) c.loop-one.invariant.grows.keeps (c.requires c.loop-one.one-index unknown less) in
    omega (arith, bounds c.loop-one.one-index less, same)) c.is_known.ensures.grows)

pub loop-one-preserved : goal.loop-one-preserved
loop-one-preserved c = record {
  grows = within_answered (step ((goal.at.loop-one-preserved c).After-is_known));
  within = omega (arith, c.loop-one-test.true);
  known = known-next c.loop-one.invariant.grows.keeps c.args.rails.now c.requires c.loop-one.one-index c.loop-one-test.true c.loop-one.invariant.known (c.in_ok-is_known.ensures.known c.if-not-branch.false);
}

pub returns-in_err-is_known-clause-grows : goal.returns-in_err-is_known-clause-grows
returns-in_err-is_known-clause-grows c =
    within_more (omega (arith, c.loop-one-test.true)) (within_refused c.in_err-is_known.was c.from_residual.ensures.1 (step ((goal.at.returns-in_err-is_known-clause-grows c).After-is_known)))

pub returns-then-not-branch-clause-grows : goal.returns-then-not-branch-clause-grows
returns-then-not-branch-clause-grows c = within_more (omega (arith, c.loop-one-test.true)) (within_answered (step ((goal.at.returns-then-not-branch-clause-grows c).After-is_known)))

pub returns-then-not-branch-clause-unknown : goal.returns-then-not-branch-clause-unknown
returns-then-not-branch-clause-unknown c other = grind arith

pub returns-clause-grows : goal.returns-clause-grows
returns-clause-grows c = within_more c.loop-one.invariant.within (within_answered c.loop-one.invariant.grows)

pub returns-clause-unknown : goal.returns-clause-unknown
returns-clause-unknown c other = absurd (true≢false other)
