use Rattle.std.proofs.Common.{arith}
use Rattle.std.proofs.Common.{[]}
use Rattle.report.proofs.Common.{if◌then◌else◌, loops_of, gate_name, appended_none, appended_equal, appended_copied, appended_in_copied, appended_items}
use Rattle.report.proofs.LoopTextLemmas.{kept_texts}
use Rattle.report.proofs.loop_text.put_cut_names.Goals as goal

pub loop-gate-init : goal.loop-gate-init
loop-gate-init g c = appended_none _ _ _

pub loop-gate-preserved : goal.loop-gate-preserved
loop-gate-preserved g c = appended_copied (λ gate. if (loops_of c.args.looped.now.net).cut gate then gate_name c.args.looped.now.net gate else []) c.args.gates.now c.loop-gate.gate-index _ _ _ _ _ _ _ _ _ (omega arith) c.loop-gate.invariant c.in_ok-put_cut_name.ensures

pub returns-in_err-put_cut_name : goal.returns-in_err-put_cut_name
returns-in_err-put_cut_name g c = appended_equal _ _ _ _ (kept_texts (loops_of c.args.looped.now.net).cut (gate_name c.args.looped.now.net) c.args.gates.now) (appended_in_copied (λ gate. if (loops_of c.args.looped.now.net).cut gate then gate_name c.args.looped.now.net gate else []) c.args.gates.now c.loop-gate.gate-index _ _ _ _ _ _ _ _ _ _ (omega arith) c.loop-gate.invariant c.in_err-put_cut_name.ensures c.from_residual.ensures.0)

pub returns : goal.returns
returns g c = appended_equal _ _ _ _ (kept_texts (loops_of c.args.looped.now.net).cut (gate_name c.args.looped.now.net) c.args.gates.now) (appended_items (λ gate. if (loops_of c.args.looped.now.net).cut gate then gate_name c.args.looped.now.net gate else []) c.args.gates.now c.loop-gate.gate-index _ _ (omega arith) c.loop-gate.invariant)
