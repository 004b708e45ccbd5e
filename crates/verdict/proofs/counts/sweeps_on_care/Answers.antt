use Rattle.std.proofs.Common.{List, Bool, length, ap, arith, ◌+◌, ◌∙◌}
use Rattle.verdict.specs.Loose.{IsLoopCount}
use Rattle.verdict.proofs.Common.{length_push}
use Rattle.isolation.proofs.AloneLemmas.{each-more}
use Rattle.verdict.proofs.LooseLemmas.{loop-counts-all}
use Rattle.verdict.proofs.counts.sweeps_on_care.Goals as goal

pub loop-place-preserved : goal.loop-place-preserved
loop-place-preserved c =
    let s = c.args.question.now in
    let before = c.loop-place.invariant in
    rw c.in_ok-push.ensures.items (record {
      width = length_push c.loop-place.counts.items c.in-Some.count ∙ ap (λ n. n + 1) before.width;
      each = each-more (IsLoopCount s.net s.blocks s.cut s.care) 0 c.in-Some.count c.loop-place.place c.loop-place.counts.items before.width before.each (rw c.in-Some.is at c.in_ok-count.ensures);
    })

pub returns : goal.returns
returns c =
    let s = c.args.question.now in
    let all = ap (λ (marks : List Bool). length marks) c.settled-place-end.ensures.settled in
    loop-counts-all s.net s.blocks c.laws.ensures.is.blocks s.cut s.care c.loop-place.place (record { per_block = c.of.result })
    (omega (arith, c.loop-place-test.false, c.loop-place.auto.place-end, all, c.laws.ensures.is.width)) (rw c.of.ensures c.loop-place.invariant)
