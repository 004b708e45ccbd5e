use Rattle.std.proofs.Common.{arith}
use Rattle.verdict.proofs.FanoutLemmas.{marked-more, marked-all}
use Rattle.verdict.proofs.fanout.mark_fanout.Goals as goal

pub loop-place-preserved : goal.loop-place-preserved
loop-place-preserved c =
    let l = c.args.looped.now in
    grind (arith, marked-more l.net l.blocks c.blocks-2.ensures.looped.blocks c.args.marks.now c.loop-place.place c.gates_at.result.now c.loop-place.marks c.mark_reached.new.marks)

pub returns : goal.returns
returns c =
    let l = c.args.looped.now in
    grind (arith, marked-all l.net l.blocks c.blocks-2.ensures.looped.blocks c.args.marks.now c.loop-place.place c.loop-place.marks)
