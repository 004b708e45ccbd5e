use Rattle.std.proofs.Common.{arith}
use Rattle.aig_core.proofs.Common.{appended_none, appended_copied, appended_in_copied, appended_items, output_line}
use Rattle.aig_core.proofs.graph_lines.put_outputs.Goals as goal

pub loop-output-init : goal.loop-output-init
loop-output-init g c = appended_none _ _ _

pub loop-output-preserved : goal.loop-output-preserved
loop-output-preserved g c = appended_copied output_line c.args.outputs.now c.loop-output.output-index _ _ _ _ _ _ _ _ _ (omega arith) c.loop-output.invariant c.in_ok-put_line.ensures

pub returns-in_err-put_line : goal.returns-in_err-put_line
returns-in_err-put_line g c = appended_in_copied output_line c.args.outputs.now c.loop-output.output-index _ _ _ _ _ _ _ _ _ _ (omega arith) c.loop-output.invariant c.in_err-put_line.ensures c.from_residual.ensures.0

pub returns : goal.returns
returns g c = appended_items output_line c.args.outputs.now c.loop-output.output-index _ _ (omega arith) c.loop-output.invariant
