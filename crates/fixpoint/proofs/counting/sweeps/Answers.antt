use Rattle.std.proofs.Common.{ℕ, ◌+◌, ◌*◌, ◌≤◌, take, ◌≡◌, ◌<◌, ◌∙◌, sym, List, length, subst, ap, get_or, arith}
use Rattle.fixpoint.proofs.Common.{sum_by, sum_by_more, sum_by-take-le, GrowsWithin, NoOtherCause, IsLawful, within_then, within_moved, within_more, within_refused, within_answered, Rails, IsWide, LoopSteps, AreCountable, IsCompared, IsComparedIn}
use Rattle.fixpoint.proofs.CompareLemmas.{loop-wide, loops-more, loops-within}
use Rattle.fixpoint.proofs.MinimumLemmas.{counts-are-sweeps}
use Rattle.fixpoint.proofs.CountLemmas.{IsCounting, counting-end, counting-step, loop-nodes, same-steps, countable-kept, least-kept}
use Rattle.fixpoint.proofs.counting.sweeps.Goals as goal
use Rattle.fixpoint.proofs.counting.sweeps.Goals.{After-least_sweeps}

pub least_sweeps-requires-clause-countable : goal.least_sweeps-requires-clause-countable
least_sweeps-requires-clause-countable c = grind (arith, countable-kept)

-- the next loop
item-is : (c : After-least_sweeps) → c.found-item.result ≡ get_or c.args.solved.now.loops c.loop-found.found-index c.found-item.result
item-is c = rw c.items-found-items.ensures at c.found-item.is

inside : (c : After-least_sweeps) → c.loop-found.found-index < length c.args.solved.now.loops
inside c = omega (arith, c.loop-found-test.true, ap length c.items-found-items.ensures)

countable : (c : After-least_sweeps) → AreCountable c.args.d.now c.args.care c.found-item.result
countable c = subst (AreCountable c.args.d.now c.args.care) (sym (item-is c)) (c.requires.loops.countable c.loop-found.found-index c.found-item.result (inside c))

-- its steps are compared
step : (c : After-least_sweeps) → GrowsWithin c.least_sweeps.result c.args.d.now c.least_sweeps.new.d NoOtherCause (IsWide c.args.d.now.vars (IsComparedIn c.args.d.now c.args.care c.args.solved.now.loops))
    (4 * (length c.args.blocks.now.home + 2) * sum_by (λ (loop : LoopSteps). length loop.cuts) (take (c.loop-found.found-index + 1) c.args.solved.now.loops))
step c =
    let loops : List LoopSteps = c.args.solved.now.loops in
    let found : LoopSteps = c.found-item.result in
    let laws : IsLawful c.args.d.now = subst IsLawful c.store.ensures c.laws.ensures in
    let keeps = c.loop-found.invariant.grows.keeps in
    let i : ℕ = c.loop-found.found-index in
    let cuts : List LoopSteps → ℕ = sum_by (λ loop. length loop.cuts) in
    let sum_is : cuts (take (i + 1) loops) ≡ cuts (take i loops) + length found.cuts = sum_by_more (λ (loop : LoopSteps). length loop.cuts) loops i found (inside c) ∙ ap (λ (x : LoopSteps). cuts (take i loops) + length x.cuts) (sym (item-is c)) in
    let sum_within : cuts (take (i + 1) loops) ≤ length c.args.blocks.now.home = omega (arith, sum_by-take-le (λ (loop : LoopSteps). length loop.cuts) loops (i + 1), c.requires.loops.cuts) in
    within_more (loops-more (length c.args.blocks.now.home) (cuts (take i loops)) (cuts (take (i + 1) loops)) (length found.cuts) (length found.steps) sum_is sum_within (countable c).few)
    (within_then c.loop-found.invariant.grows
    (within_moved (λ w wide. subst (λ (steps : List (List Rails)). IsWide c.loop-found.d.vars (IsCompared c.loop-found.d c.args.care steps) w) (sym (same-steps laws c.requires.care keeps found (countable c)))
    (loop-wide c.args.d.now c.loop-found.d c.args.care loops found keeps c.requires.care (loop-nodes c.args.d.now laws found (countable c).keys) (i, inside c, sym (item-is c)) wide)) c.least_sweeps.ensures.grows))

pub loop-found-preserved : goal.loop-found-preserved
loop-found-preserved c =
    let at : After-least_sweeps = (goal.at.loop-found-preserved c).After-least_sweeps in
    let found : LoopSteps = c.found-item.result in
    let least = least-kept (subst IsLawful c.store.ensures c.laws.ensures) c.requires.care c.loop-found.invariant.grows.keeps found (countable at) c.in_ok-count.count c.in_ok-count.ensures.least in
    record {
      grows = within_answered (step at);
      counting = counting-step c.args.d.now c.args.blocks.now c.args.care c.args.solved.now.loops c.loop-found.found-index c.loop-found.counts.items found c.in_ok-count.count c.requires.loops.loops (inside at) (item-is at) least c.loop-found.invariant.counting;
    }

pub returns-in_err-count-clause-grows : goal.returns-in_err-count-clause-grows
returns-in_err-count-clause-grows c =
    grind (arith, loops-within (length c.args.blocks.now.home), sum_by-take-le, within_more, within_refused c.in_err-count.was c.from_residual.ensures.1 (step ((goal.at.returns-in_err-count-clause-grows c).After-least_sweeps)), step ((goal.at.returns-in_err-count-clause-grows c).After-least_sweeps))

pub returns-clause-grows : goal.returns-clause-grows
returns-clause-grows c =
    let loops : List LoopSteps = c.args.solved.now.loops in
    let most = loops-within (length c.args.blocks.now.home) (sum_by (λ (loop : LoopSteps). length loop.cuts) (take c.loop-found.found-index loops)) (omega (arith, sum_by-take-le (λ (loop : LoopSteps). length loop.cuts) loops c.loop-found.found-index, c.requires.loops.cuts)) in
    within_more most (within_answered c.loop-found.invariant.grows)

pub returns-clause-sweeps : goal.returns-clause-sweeps
returns-clause-sweeps c net cut v are cut_is solution =
    counts-are-sweeps net c.args.blocks.now cut are cut_is c.args.d.now v c.args.care c.args.solved.now (record { per_block = c.of.result }) solution
    (counting-end c.args.d.now c.args.blocks.now c.args.care c.args.solved.now.loops c.loop-found.found-index (record { per_block = c.of.result }) (let past = c.loop-found-test.false in omega (arith, past, ap length c.items-found-items.ensures))
    (subst (IsCounting c.args.d.now c.args.blocks.now c.args.care c.args.solved.now.loops c.loop-found.found-index) (sym c.of.ensures) c.loop-found.invariant.counting))
