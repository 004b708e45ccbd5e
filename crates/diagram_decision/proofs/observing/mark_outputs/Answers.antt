use Rattle.std.proofs.Common.{◌<◌, List, [], length, map, sym, ap, arith}
use Rattle.diagram_decision.proofs.Common.{length-map, get_or_from_slice_get, Latch}
use Rattle.std.proofs.lemmas.List.{append-nil}
use Rattle.diagram_decision.proofs.MarkLemmas.{marks-more, marks-end, source-more}
use Rattle.diagram_decision.proofs.observing.mark_outputs.Goals as goal

pub loop-signal-preserved : goal.loop-signal-preserved
loop-signal-preserved c = grind (arith, marks-more c.args.net.now [] c.outputs-signal-items.result.now c.loop-signal.signal-index _ c.mark.new.marks c.loop-signal-test.true (c.mark.ensures.marks _ c.loop-signal.invariant))

pub loop-number-init : goal.loop-number-init
loop-number-init c = grind (arith, append-nil c.args.net.now.outputs, marks-end c.args.net.now [] c.outputs-signal-items.result.now c.loop-signal.signal-index c.loop-signal.marks c.loop-signal-test.false c.loop-signal.invariant)

pub loop-number-preserved : goal.loop-number-preserved
loop-number-preserved c =
    let latches : List Latch = c.args.net.now.latches in
    let inside : c.loop-number.number < length latches = omega (arith, c.loop-number-test.true, c.latches-number-end.ensures.latches) in
    source-more c.args.net.now c.args.net.now.outputs c.loop-number.number c.latch.result.now c.latch.result.now.from c.mark-in-loop-number.new.marks inside
    (sym (ap (λ (l : Latch). l.from) (get_or_from_slice_get latches c.loop-number.number c.latch.result.now c.latch.result.now c.latch.ensures.latch)))
    (c.mark-in-loop-number.ensures.marks _ c.loop-number.invariant)

pub returns : goal.returns
returns c =
    let latches : List Latch = c.args.net.now.latches in
    marks-end c.args.net.now c.args.net.now.outputs (map (λ (l : Latch). l.from) latches) c.loop-number.number c.loop-number.marks
    (omega (arith, c.loop-number-test.false, c.latches-number-end.ensures.latches, length-map latches (λ (l : Latch). l.from))) c.loop-number.invariant
