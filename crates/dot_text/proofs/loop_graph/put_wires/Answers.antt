use Rattle.std.proofs.Common.{arith}
use Rattle.dot_text.proofs.Common.{loops_of, appended_none, appended_copied, appended_in_copied, appended_items}
use Rattle.dot_text.specs.LoopGraphs.{loop_wires}
use Rattle.dot_text.proofs.loop_graph.put_wires.Goals as goal

pub loop-gate-init : goal.loop-gate-init
loop-gate-init g c = appended_none _ _ _

pub loop-gate-preserved : goal.loop-gate-preserved
loop-gate-preserved g c = appended_copied (loop_wires c.args.looped.now.net (loops_of c.args.looped.now.net)) c.args.gates.now c.loop-gate.gate-index _ _ _ _ _ _ _ _ _ (omega arith) c.loop-gate.invariant c.in_ok-put_pins.ensures

pub returns-in_err-put_pins : goal.returns-in_err-put_pins
returns-in_err-put_pins g c = appended_in_copied (loop_wires c.args.looped.now.net (loops_of c.args.looped.now.net)) c.args.gates.now c.loop-gate.gate-index _ _ _ _ _ _ _ _ _ _ (omega arith) c.loop-gate.invariant c.in_err-put_pins.ensures c.from_residual.ensures.0

pub returns : goal.returns
returns g c = appended_items (loop_wires c.args.looped.now.net (loops_of c.args.looped.now.net)) c.args.gates.now c.loop-gate.gate-index _ _ (omega arith) c.loop-gate.invariant
