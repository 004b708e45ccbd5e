use Rattle.std.proofs.Common.{arith, ap, sym, get_or}
use Rattle.dot_text.proofs.Common.{Parts, appended_equal, appended_none, appended_copied, appended_in_copied, appended_items}
use Rattle.dot_text.specs.LoopGraphs.{gate_node}
use Rattle.dot_text.proofs.loop_graph.put_gates.Goals as goal

pub loop-gate-init : goal.loop-gate-init
loop-gate-init g c = appended_none _ _ _

pub loop-gate-preserved : goal.loop-gate-preserved
loop-gate-preserved g c = appended_copied (gate_node c.args.looped.now.net) c.args.gates.now c.loop-gate.gate-index 0 _ _ _ _ _ _ _ _ (omega arith) c.loop-gate.invariant
    (appended_equal _ _ _ _ (ap (λ (net : Parts). gate_node net (get_or c.args.gates.now c.loop-gate.gate-index 0)) (sym c.net.ensures.net)) c.in_ok-put_gate.ensures)

pub returns-in_err-put_gate : goal.returns-in_err-put_gate
returns-in_err-put_gate g c = appended_in_copied (gate_node c.args.looped.now.net) c.args.gates.now c.loop-gate.gate-index 0 _ _ _ _ _ _ _ _ _ (omega arith) c.loop-gate.invariant
    (appended_equal _ _ _ _ (ap (λ (net : Parts). gate_node net (get_or c.args.gates.now c.loop-gate.gate-index 0)) (sym c.net.ensures.net)) c.in_err-put_gate.ensures) c.from_residual.ensures.0

pub returns : goal.returns
returns g c = appended_items (gate_node c.args.looped.now.net) c.args.gates.now c.loop-gate.gate-index _ _ (omega arith) c.loop-gate.invariant
