use Rattle.std.proofs.Common.{◌-◌, arith}
use Rattle.loops.proofs.MarkLemmas.{marked-more, marked-all}
use Rattle.loops.proofs.cones.mark_upstream.Goals as goal

pub loop-place-init : goal.loop-place-init
loop-place-init c = grind arith

pub loop-place-preserved : goal.loop-place-preserved
loop-place-preserved c =
    let l = c.args.looped.now in
    grind (arith, marked-more l.net l.blocks c.blocks-2.ensures.looped.blocks c.args.marks.now (c.loop-place.place - 1) c.gates_at.result.now c.loop-place.marks c.mark_block.new.marks)

pub returns : goal.returns
returns c =
    let l = c.args.looped.now in
    grind (arith, marked-all l.net l.blocks c.blocks-2.ensures.looped.blocks c.args.marks.now c.loop-place.marks)
