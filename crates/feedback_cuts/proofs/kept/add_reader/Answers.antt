use Rattle.std.proofs.Common.{◌<◌, [], length, get_or, ap, arith}
use Rattle.feedback_cuts.proofs.Common.{get_or_default, gate_at}
use Rattle.loops.proofs.RowLemmas.{pin_of_source, same_element}
use Rattle.feedback_cuts.proofs.KeptLemmas.{gained_pin, skipped_pin}
use Rattle.feedback_cuts.proofs.kept.add_reader.Goals as goal
use Rattle.feedback_cuts.proofs.kept.add_reader.Goals.{in-Some+in_ok-push, in_default}

pub loop-pin-preserved : goal.loop-pin-preserved
loop-pin-preserved c =
    let pins = rw (c.gate.ensures.at, c.net.ensures.net) at c.items-pin-items.ensures in
    let within : c.loop-pin.pin-index < length (gate_at c.args.grouped.now.net c.args.gate).pins = omega (arith, c.loop-pin-test.true, ap length pins) in
    elim c.match-loop_source.branch [
      | in-Some+in_ok-push w ↦
          let n = w.in-Some.source in
          let pin =
          pin_of_source c.args.grouped.now.net c.args.grouped.now.blocks c.args.gate c.loop-pin.pin-index _ n c.net.ensures.grouped within
          (same_element _ _ c.loop-pin.pin-index _ pins c.loop-pin-test.true) w.in-Some.ensures.some in
          let source = pin.feeds.source in
          let l : n < length c.loop-pin.readers = omega (arith, c.loop-pin.auto.readers, c.requires.size) in
          rw (w.readers-is, w.in_ok-push.ensures)
          (gained_pin c.loop-pin.readers n c.args.gate (get_or c.loop-pin.readers n w.index-readers-source.result) l (get_or_default c.loop-pin.readers n w.index-readers-source.result [] l)
          c.args.grouped.now.net c.args.grouped.now.blocks c.loop-pin.pin-index _ c.args.readers.now c.net.ensures.grouped within
          (same_element _ _ c.loop-pin.pin-index _ pins c.loop-pin-test.true) w.in-Some.ensures.some c.loop-pin.invariant)
      | in_default w ↦
          rw w.readers-is
          (skipped_pin c.args.grouped.now.net c.args.grouped.now.blocks c.args.gate c.loop-pin.pin-index _ c.args.readers.now c.loop-pin.readers
          (same_element _ _ c.loop-pin.pin-index _ pins c.loop-pin-test.true) w.in_default.ensures.none c.loop-pin.invariant)
    ]
