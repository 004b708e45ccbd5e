use Rattle.std.proofs.Common.{◌<◌, length, ap, arith}
use Rattle.loops.proofs.Common.{gate_at}
use Rattle.loops.proofs.RowLemmas.{same_element}
use Rattle.loops.proofs.OrderLemmas.{places_push, places_skip}
use Rattle.loops.proofs.orders.places_read.Goals as goal
use Rattle.loops.proofs.orders.places_read.Goals.{in-Some+in_ok-push, in_default}

pub loop-pin-preserved : goal.loop-pin-preserved
loop-pin-preserved c =
    let pins = rw (c.gate.ensures.at, c.net.ensures.net) at c.items-pin-items.ensures in
    let within : c.loop-pin.pin-index < length (gate_at c.args.looped.now.net c.args.gate).pins = omega (arith, c.loop-pin-test.true, ap length pins) in
    elim c.match-place_read.branch [
      | in-Some+in_ok-push w ↦
          rw (w.places-is, w.in_ok-push.ensures.items)
          (places_push c.args.looped.now.net c.args.looped.now.blocks c.args.looped.now.cut c.args.gates.now c.args.gate c.loop-pin.pin-index w.in-Some.place _ c.loop-pin.places.items
          c.net.ensures.looped.blocks c.requires.rise within c.loop-pin.invariant (same_element _ _ c.loop-pin.pin-index _ pins c.loop-pin-test.true) w.in-Some.ensures.some)
      | in_default w ↦
          rw w.places-is
          (places_skip c.args.looped.now.net c.args.looped.now.blocks c.args.looped.now.cut c.args.gates.now c.args.gate c.loop-pin.pin-index _ c.loop-pin.places.items
          c.loop-pin.invariant (same_element _ _ c.loop-pin.pin-index _ pins c.loop-pin-test.true) w.in_default.ensures.none)
    ]
