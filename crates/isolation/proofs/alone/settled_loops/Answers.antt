use Rattle.std.proofs.Common.{◌≡◌, ◌+◌, ◌∙◌, true, false, length, ap, arith}
use Rattle.isolation.proofs.Common.{Blocks, block_at, length_push, SettleInSweeps}
use Rattle.isolation.proofs.AloneLemmas.{each-more}
use Rattle.isolation.proofs.alone.settled_loops.Goals as goal

pub loop-place-preserved : goal.loop-place-preserved
loop-place-preserved c =
    let l = c.args.looped.now in
    let before = c.loop-place.invariant in
    rw c.in_ok-push.ensures.items (record {
      width = length_push c.loop-place.settled.items _ ∙ ap (λ n. n + 1) before.width;
      each = each-more (λ b mark. (block_at l.blocks b).looped ≡ true → mark ≡ true → SettleInSweeps l.net (block_at l.blocks b).gates 1) false _ c.loop-place.place c.loop-place.settled.items before.width before.each
          (λ looped marked. c.in_ok-is_settled.ensures.settled marked looped);
      nodes = c.is_settled.ensures.nodes;
    })

pub returns-clause-settled : goal.returns-clause-settled
returns-clause-settled c b within loop marked =
    let past = c.loop-place-test.false in
    let same = ap length c.items-number.ensures in
    let are = ap (λ (blocks : Blocks). length blocks.list) c.blocks-2.ensures.blocks in
    c.loop-place.invariant.each b (omega (arith, within, past, same, are)) loop marked
