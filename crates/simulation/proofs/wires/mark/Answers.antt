use Rattle.std.proofs.Common.{get_or, arith}
use Rattle.simulation.proofs.Common.{get_or_default}
use Rattle.simulation.proofs.MarkingLemmas.{marked_none, marked_more}
use Rattle.simulation.proofs.wires.mark.Goals as goal

pub loop-gate-init : goal.loop-gate-init
loop-gate-init c = marked_none c.args.gates.now c.args.home.now c.args.due.now

pub loop-gate-preserved : goal.loop-gate-preserved
loop-gate-preserved c =
    let gates = c.args.gates.now in
    let home = c.args.home.now in
    let k = c.loop-gate.gate-index in
    grind (arith, marked_more gates home k (get_or gates k 0) (get_or home (get_or gates k 0) 0) c.args.due.now c.loop-gate.due, get_or_default gates k)
