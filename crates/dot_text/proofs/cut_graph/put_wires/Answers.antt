use Rattle.std.proofs.Common.{arith}
use Rattle.dot_text.proofs.Common.{appended_none, appended_copied, appended_in_copied, appended_items, loops_of}
use Rattle.dot_text.specs.LoopGraphs.{wires_at}
use Rattle.dot_text.proofs.cut_graph.put_wires.Goals as goal

pub loop-gate-init : goal.loop-gate-init
loop-gate-init g c = appended_none _ _ _

pub loop-gate-preserved : goal.loop-gate-preserved
loop-gate-preserved g c = appended_copied (wires_at c.args.looped.now.net (loops_of c.args.looped.now.net) c.args.number) c.args.gates.now c.loop-gate.gate-index _ _ _ _ _ _ _ _ _ (omega arith) c.loop-gate.invariant c.in_ok-put_wires_at.ensures

pub returns-in_err-put_wires_at : goal.returns-in_err-put_wires_at
returns-in_err-put_wires_at g c = appended_in_copied (wires_at c.args.looped.now.net (loops_of c.args.looped.now.net) c.args.number) c.args.gates.now c.loop-gate.gate-index _ _ _ _ _ _ _ _ _ _ (omega arith) c.loop-gate.invariant c.in_err-put_wires_at.ensures c.from_residual.ensures.0

pub returns : goal.returns
returns g c = appended_items (wires_at c.args.looped.now.net (loops_of c.args.looped.now.net) c.args.number) c.args.gates.now c.loop-gate.gate-index _ _ (omega arith) c.loop-gate.invariant
