use Rattle.std.proofs.Common.{arith}
use Rattle.report.proofs.Common.{gate_name, appended_none, appended_copied, appended_in_copied, appended_items}
use Rattle.report.proofs.loop_text.put_gate_names.Goals as goal

pub loop-gate-init : goal.loop-gate-init
loop-gate-init g c = appended_none _ _ _

pub loop-gate-preserved : goal.loop-gate-preserved
loop-gate-preserved g c = appended_copied (gate_name c.args.net.now) c.args.gates.now c.loop-gate.gate-index _ _ _ _ _ _ _ _ _ (omega arith) c.loop-gate.invariant c.in_ok-put_gate_name.ensures

pub returns-in_err-put_gate_name : goal.returns-in_err-put_gate_name
returns-in_err-put_gate_name g c = appended_in_copied (gate_name c.args.net.now) c.args.gates.now c.loop-gate.gate-index _ _ _ _ _ _ _ _ _ _ (omega arith) c.loop-gate.invariant c.in_err-put_gate_name.ensures c.from_residual.ensures.0

pub returns : goal.returns
returns g c = appended_items (gate_name c.args.net.now) c.args.gates.now c.loop-gate.gate-index _ _ (omega arith) c.loop-gate.invariant
