use Rattle.std.proofs.Common.{[], ◌∷◌, ◌+◌, ◌*◌, sym, ◌∙◌, subst, get_or, true≢false, arith}
use Rattle.fixpoint.proofs.Common.{get_or_default, GrowsWithin, NoOtherCause, within_then, within_moved, within_more, within_refused, within_answered, Rails, SameRailsOn, IsCompared, rails_at, unknown, IsWide}
use Rattle.fixpoint.proofs.CompareLemmas.{place-wide}
use Rattle.fixpoint.proofs.CountLemmas.{SameRailsOn-moved, more_agree}
use Rattle.fixpoint.proofs.counting.agree_on.Goals as goal
use Rattle.fixpoint.proofs.counting.agree_on.Goals.{After-same_rails_on}

-- the rails at the next place
step : (c : After-same_rails_on) → GrowsWithin c.same_rails_on.result c.args.d.now c.same_rails_on.new.d NoOtherCause (IsWide c.args.d.now.vars (IsCompared c.args.d.now c.args.care (c.args.step.now ∷ c.args.last.now ∷ []))) (4 * c.loop-place.place + 4)
step c =
    within_then c.loop-place.invariant.grows
    (within_moved (λ w wide. place-wide c.args.d.now c.loop-place.d c.args.care c.args.step.now c.args.last.now c.loop-place.place c.loop-place.invariant.grows.keeps c.requires.care (omega (arith, c.loop-place-test.true, c.requires.width)) c.loop-place-test.true c.requires.step c.requires.last wide)
    c.same_rails_on.ensures.grows)

pub returns-then-not-branch-clause-agree : goal.returns-then-not-branch-clause-agree
returns-then-not-branch-clause-agree c =
    let place = c.loop-place.place in
    let less = c.loop-place-test.true in
    let width = c.requires.width in (
      λ e. absurd (true≢false (sym e)),
      λ agree. sym c.if-not-branch.true ∙ c.in_ok-same_rails_on.ensures.same.1
          (SameRailsOn-moved c.args.d.now c.loop-place.d c.args.d.now c.args.care (λ n bits is. sym (c.loop-place.invariant.grows.keeps.function n bits is)) c.requires.care (rails_at c.args.step.now place) (rails_at c.args.last.now place) (c.requires.step place unknown (omega arith)) (c.requires.last place unknown less) (agree place unknown less)),
    )

pub loop-place-preserved : goal.loop-place-preserved
loop-place-preserved c =
    let place = c.loop-place.place in
    let less = c.loop-place-test.true in
    let width = c.requires.width in
    let xs = c.args.step.now in
    let ys = c.args.last.now in
    let here : SameRailsOn c.args.d.now c.args.care (rails_at xs place) (rails_at ys place) =
    SameRailsOn-moved c.loop-place.d c.args.d.now c.args.d.now c.args.care c.loop-place.invariant.grows.keeps.function c.requires.care (rails_at xs place) (rails_at ys place) (c.requires.step place unknown (omega arith)) (c.requires.last place unknown less) (c.in_ok-same_rails_on.ensures.same.0 c.if-not-branch.false) in
    record {
      grows = within_more (omega arith) (within_answered (step ((goal.at.loop-place-preserved c).After-same_rails_on)));
      within = omega (arith, less);
      same = more_agree c.args.d.now c.args.care xs ys place c.loop-place.invariant.same
          (λ none. subst (λ (r : Rails). SameRailsOn c.args.d.now c.args.care r (get_or ys place none)) (get_or_default xs place unknown none (omega arith))
          (subst (λ (r : Rails). SameRailsOn c.args.d.now c.args.care (rails_at xs place) r) (get_or_default ys place unknown none less) here));
    }

pub returns-in_err-same_rails_on-clause-grows : goal.returns-in_err-same_rails_on-clause-grows
returns-in_err-same_rails_on-clause-grows c =
    within_more (omega (arith, c.loop-place-test.true)) (within_refused c.in_err-same_rails_on.was c.from_residual.ensures.1 (step ((goal.at.returns-in_err-same_rails_on-clause-grows c).After-same_rails_on)))

pub returns-then-not-branch-clause-grows : goal.returns-then-not-branch-clause-grows
returns-then-not-branch-clause-grows c = within_more (omega (arith, c.loop-place-test.true)) (within_answered (step ((goal.at.returns-then-not-branch-clause-grows c).After-same_rails_on)))

pub returns-clause-grows : goal.returns-clause-grows
returns-clause-grows c = within_more (omega (arith, c.loop-place.invariant.within)) (within_answered c.loop-place.invariant.grows)
