use Rattle.std.proofs.Common.{◌∙◌, List, ap, length, arith}
use Rattle.care_rows.proofs.Common.{Blocks}
use Rattle.loops.specs.declared.structure.Block.{Block}
use Rattle.care_rows.proofs.SteadyLemmas.{all_done}
use Rattle.care_rows.proofs.steady.mark_steady.Goals as goal

pub returns : goal.returns
returns c =
    let l = c.args.looped.now in
    let same = ap (λ (xs : List Block). length xs) (c.items-count.ensures ∙ ap (λ (b : Blocks). b.list) c.blocks-2.ensures.blocks) in
    let past = c.loop-place-test.false in
    all_done l.net l.blocks c.blocks-2.ensures.looped.blocks c.loop-place.marks c.loop-place.place (omega (arith, same, past)) c.loop-place.invariant
