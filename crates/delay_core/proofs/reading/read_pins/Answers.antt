use Rattle.std.proofs.Common.{◌<◌, false, length, arith}
use Rattle.delay_core.proofs.Common.{take_all, seen}
use Rattle.delay_core.proofs.ReadingLemmas.{length-seen, seen-at, pushed}
use Rattle.delay_core.proofs.reading.read_pins.Goals as goal

pub loop-i-preserved : goal.loop-i-preserved
loop-i-preserved c =
    let size = length-seen c.args.timeline.now.history c.args.pins.now c.args.ages.now c.requires.count in
    let in_range : c.loop-i.i < length (seen c.args.timeline.now.history c.args.pins.now c.args.ages.now) = omega arith in
    grind (arith, seen-at c.args.timeline.now.history c.args.pins.now c.args.ages.now c.loop-i.i, pushed (seen c.args.timeline.now.history c.args.pins.now c.args.ages.now) _ _ c.value.result false c.loop-i.i in_range c.push_reserved.ensures.items c.loop-i.invariant.seen)

pub returns-clause-seen : goal.returns-clause-seen
returns-clause-seen c = grind (arith, length-seen c.args.timeline.now.history c.args.pins.now c.args.ages.now c.requires.count, take_all c.loop-i.i (seen c.args.timeline.now.history c.args.pins.now c.args.ages.now))
