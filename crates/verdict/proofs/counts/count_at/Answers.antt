use Rattle.std.proofs.Common.{◌≡◌, true, arith}
use Rattle.std.proofs.lemmas.Grind.{common_steps}
use Rattle.std.proofs.lemmas.Option.{IfSome_then}
use Rattle.verdict.proofs.Common.{IfOk-weaker, get_or_default, block_at, is_marked}
use Rattle.verdict.proofs.LooseLemmas.{least-loop, one-sweep}
use Rattle.verdict.proofs.counts.count_at.Goals as goal

pub returns-then-is_known_around : goal.returns-then-is_known_around
returns-then-is_known_around c =
    let s = c.args.question.now in
    let is = c.settled.ensures.is in
    let looped : (block_at s.blocks c.args.place).looped ≡ true = grind (arith, common_steps, get_or_default) in
    let marked : is_marked s.settled c.args.place ≡ true = rw c.settled.ensures.settled at c.if-settled-place.true in
    one-sweep s.net is.net s.blocks is.blocks s.cut is.cut s.care c.requires.some s.settled is.settled c.args.place c.requires.place looped marked (c.is_known_around.ensures c.if-is_known_around.true)

pub returns : goal.returns
returns c =
    let s = c.args.question.now in
    let is = c.settled.ensures.is in
    let looped : (block_at s.blocks c.args.place).looped ≡ true = grind (arith, common_steps, get_or_default) in
    IfOk-weaker c.ask_sweeps.result _ _ (λ found is_least. IfSome_then found is_least (λ sweeps least. least-loop s.net is.net s.blocks is.blocks s.cut is.cut s.care c.args.place sweeps looped least))
    c.ask_sweeps.ensures
