use Rattle.std.proofs.Common.{refl, arith}
use Rattle.loops.proofs.ListLemmas.{gate_begins, gate_passes}
use Rattle.loops.proofs.looped_netlist.LoopedNetlist.loop_after.Goals as goal

pub loop-gate-init : goal.loop-gate-init
loop-gate-init c = record { same = refl; later = omega arith }

pub loop-gate-preserved : goal.loop-gate-preserved
loop-gate-preserved c = grind (arith, gate_passes)

pub returns-in-Some : goal.returns-in-Some
returns-in-Some c = grind (arith, gate_begins)

pub returns : goal.returns
returns c = grind arith
