use Rattle.loop_simulation.proofs.Common.{is_cut}
use Rattle.loop_simulation.proofs.LoopLemmas.{places-cut, places-uncut}
use Rattle.loop_simulation.proofs.looped_block.cut_places.Goals.{then-wires-gates+in_ok-push, else-wires-gates}
use Rattle.loop_simulation.proofs.looped_block.cut_places.Goals as goal

pub loop-place-preserved : goal.loop-place-preserved
loop-place-preserved c = elim c.if-wires-gates.branch [
  | then-wires-gates+in_ok-push w ↦
      rw (w.places-is, w.in_ok-push.ensures.items) (places-cut (is_cut c.args.wires.now) c.args.gates.now c.loop-place.place c.loop-place.places.items c.loop-place-test.true w.if-wires-gates.true c.loop-place.invariant)
  | else-wires-gates w ↦ rw w.places-is (places-uncut (is_cut c.args.wires.now) c.args.gates.now c.loop-place.place c.loop-place.places.items c.loop-place-test.true w.if-wires-gates.false c.loop-place.invariant)
]
