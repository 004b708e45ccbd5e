use Rattle.std.proofs.Common.{ℕ, ap, ◌+◌, ◌*◌, ◌≤◌, ◌≡◌, ◌-◌, ◌∙◌, sym, [], length, arith, true≢false}
use Rattle.std.proofs.lemmas.List.{get_or_read}
use Rattle.fixpoint.proofs.Common.{GrowsWithin, NoOtherCause, within_then, within_moved, within_more, within_refused, within_answered, step_at, last_step, AgreeOn, IsLeastStep, IsCompared, mul-le-mul_left, IsWide}
use Rattle.fixpoint.proofs.CompareLemmas.{steps-wide}
use Rattle.fixpoint.proofs.CountLemmas.{least_here, none_more, least_last}
use Rattle.fixpoint.proofs.counting.least_step.Goals as goal
use Rattle.fixpoint.proofs.counting.least_step.Goals.{After-agree_on}

-- the steps that are compared
here-is : (c : After-agree_on) → c.items.result.now ≡ step_at c.args.steps.now c.loop-number.number
here-is c = c.items.ensures ∙ get_or_read c.args.steps.now c.loop-number.number c.index-steps-number.result (omega (arith, c.loop-number-test.true)) c.index-steps-number.is []

last-is : (c : After-agree_on) → c.items-last.result.now ≡ last_step c.args.steps.now
last-is c = c.items-last.ensures ∙ get_or_read c.args.steps.now (length c.args.steps.now - 1) c.index-steps-end.result (omega (arith, c.requires.some)) c.index-steps-end.is []

step : (c : After-agree_on) → GrowsWithin c.agree_on.result c.args.d.now c.agree_on.new.d NoOtherCause (IsWide c.args.d.now.vars (IsCompared c.args.d.now c.args.care c.args.steps.now)) (4 * c.args.width * c.loop-number.number + 4 * c.args.width)
step c =
    let less = c.loop-number-test.true in
    let some = c.requires.some in
    let long : length c.items-last.result.now ≡ c.args.width = ap length (last-is c) ∙ c.requires.widths (length c.args.steps.now - 1) [] (omega (arith, some)) in
    within_more (omega (arith, long))
    (within_then c.loop-number.invariant.grows
    (within_moved (λ w wide. steps-wide c.args.d.now c.loop-number.d c.args.care c.args.steps.now c.items.result.now c.items-last.result.now c.loop-number.number (length c.args.steps.now - 1) c.loop-number.invariant.grows.keeps c.requires.care c.requires.nodes
    (omega (arith, less)) (omega (arith, some)) (here-is c) (last-is c) wide) c.agree_on.ensures.grows))

-- one that agrees with the last one is the least
found : (c : After-agree_on) → AgreeOn c.loop-number.d c.args.care c.items.result.now c.items-last.result.now → IsLeastStep c.args.d.now c.args.care c.args.steps.now c.loop-number.number
found c agree =
    least_here c.args.steps.now c.args.width c.loop-number.invariant.grows.keeps c.requires.care c.requires.nodes c.requires.widths c.loop-number.number (omega (arith, c.loop-number-test.true)) c.loop-number.invariant.none
    (rw (here-is c, last-is c) at agree)

steps-more : (width k n : ℕ) → k + 1 ≤ n → 4 * width * k + 4 * width ≤ 4 * width * n
steps-more width k n less = let most = mul-le-mul_left {m = k + 1} {n = n} (4 * width) less in omega (arith, most)

pub overflow_cast-result : goal.overflow_cast-result
overflow_cast-result c = omega (arith, c.requires.fits c.loop-number.number (found (goal.at.overflow_cast-result c).After-agree_on (c.in_ok-agree_on.ensures.agree.0 c.if-branch.true)))

pub returns-then-branch-clause-least : goal.returns-then-branch-clause-least
returns-then-branch-clause-least c = found (goal.at.returns-then-branch-clause-least c).After-agree_on (c.in_ok-agree_on.ensures.agree.0 c.if-branch.true)

pub loop-number-preserved : goal.loop-number-preserved
loop-number-preserved c =
    let at : After-agree_on = (goal.at.loop-number-preserved c).After-agree_on in
    let less = c.loop-number-test.true in
    record {
      grows = within_more (omega arith) (within_answered (step at));
      within = omega arith;
      none = none_more c.args.steps.now c.args.width c.loop-number.invariant.grows.keeps c.requires.care c.requires.nodes c.requires.widths c.loop-number.number (omega arith) c.loop-number.invariant.none
          (λ agree. true≢false (sym (c.in_ok-agree_on.ensures.agree.1 (rw (here-is at, last-is at) agree)) ∙ c.if-branch.false));
    }

pub overflow_cast-result-2 : goal.overflow_cast-result-2
overflow_cast-result-2 c = grind (arith, least_last c.args.d.now c.args.care c.args.steps.now (length c.args.steps.now - 1) c.requires.some)

pub returns-in_err-agree_on-clause-grows : goal.returns-in_err-agree_on-clause-grows
returns-in_err-agree_on-clause-grows c =
    grind (arith, within_more, steps-more c.args.width c.loop-number.number (length c.args.steps.now), within_refused c.in_err-agree_on.was c.from_residual.ensures.1 (step ((goal.at.returns-in_err-agree_on-clause-grows c).After-agree_on)), step ((goal.at.returns-in_err-agree_on-clause-grows c).After-agree_on))

pub returns-then-branch-clause-grows : goal.returns-then-branch-clause-grows
returns-then-branch-clause-grows c =
    let less = c.loop-number-test.true in
    within_more (steps-more c.args.width c.loop-number.number (length c.args.steps.now) (omega (arith, less, c.requires.some))) (within_answered (step ((goal.at.returns-then-branch-clause-grows c).After-agree_on)))

pub returns-clause-grows : goal.returns-clause-grows
returns-clause-grows c =
    let within = c.loop-number.invariant.within in
    within_more (mul-le-mul_left {m = c.loop-number.number} {n = length c.args.steps.now} (4 * c.args.width) (omega (arith, within))) (within_answered c.loop-number.invariant.grows)
