use Rattle.std.proofs.Common.{arith}
use Rattle.dot_text.proofs.Common.{appended_none, appended_copied, appended_in_copied, appended_items, loops_of}
use Rattle.dot_text.specs.LoopGraphs.{cut_node}
use Rattle.dot_text.proofs.cut_graph.put_cuts.Goals as goal

pub loop-gate-init : goal.loop-gate-init
loop-gate-init g c = appended_none _ _ _

pub loop-gate-preserved : goal.loop-gate-preserved
loop-gate-preserved g c = appended_copied (cut_node c.args.looped.now.net (loops_of c.args.looped.now.net)) c.args.gates.now c.loop-gate.gate-index _ _ _ _ _ _ _ _ _ (omega arith) c.loop-gate.invariant c.in_ok-put_cut.ensures

pub returns-in_err-put_cut : goal.returns-in_err-put_cut
returns-in_err-put_cut g c = appended_in_copied (cut_node c.args.looped.now.net (loops_of c.args.looped.now.net)) c.args.gates.now c.loop-gate.gate-index _ _ _ _ _ _ _ _ _ _ (omega arith) c.loop-gate.invariant c.in_err-put_cut.ensures c.from_residual.ensures.0

pub returns : goal.returns
returns g c = appended_items (cut_node c.args.looped.now.net (loops_of c.args.looped.now.net)) c.args.gates.now c.loop-gate.gate-index _ _ (omega arith) c.loop-gate.invariant
