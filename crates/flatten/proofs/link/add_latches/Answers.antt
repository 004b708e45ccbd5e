use Rattle.std.proofs.Common.{◌<◌, length, ◌∙◌, arith}
use Rattle.flatten.proofs.Common.{LatchLine}
use Rattle.flatten.proofs.Added.{added_by}
use Rattle.flatten.proofs.link.add_latches.Goals as goal

pub loop-latch-preserved : goal.loop-latch-preserved
loop-latch-preserved c =
    let latches = c.args.latches.now in
    let i = c.loop-latch.latch-index in
    let inside : i < length latches = omega arith in
    let one_more = added_by (λ (line : LatchLine). line.output) c.args.set.now.keys c.loop-latch.set.keys c.add_copy.new.set.keys latches i c.latch-item.result c.in_ok-add_copy.field-0 inside c.latch-item.is
    c.loop-latch.invariant.keys c.in_ok-add_copy.ensures.names c.in_ok-add_copy.ensures.is_new c.if-not-branch.false in
    record { keys = one_more.0; rest = one_more.1 ∙ c.loop-latch.invariant.rest }
