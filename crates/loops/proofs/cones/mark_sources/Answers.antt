use Rattle.std.proofs.Common.{◌∙◌, ap, arith}
use Rattle.netlist.specs.declared.parts.Gate.{Gate}
use Rattle.loops.proofs.MarkLemmas.{pin-more, pins-marked}
use Rattle.loops.proofs.cones.mark_sources.Goals as goal

pub loop-pin-preserved : goal.loop-pin-preserved
loop-pin-preserved c =
    pin-more c.args.net.now c.gate.ensures.valid c.args.gate c.requires.gate c.items-pin-items.result.now (c.items-pin-items.ensures ∙ ap (λ (g : Gate). g.pins) c.gate.ensures.at) c.loop-pin.pin-index _ c.loop-pin-test.true
    c.args.marks.now c.loop-pin.marks c.mark_driver.new.marks c.loop-pin.invariant c.mark_driver.ensures

pub returns : goal.returns
returns c = grind (arith, pins-marked c.args.net.now c.args.gate c.loop-pin.pin-index c.items-pin-items.result.now c.args.marks.now c.loop-pin.marks)
