use Rattle.std.proofs.Common.{arith}
use Rattle.aig_core.proofs.Common.{range_with_len, appended_none, appended_item, appended_in_item, appended_items, input_line}
use Rattle.std.proofs.lemmas.List.FromFn.{length-range_with_len}
use Rattle.cyc_base.proofs.ListLemmas.{at_range}
use Rattle.aig_core.proofs.graph_lines.put_inputs.Goals as goal

pub loop-input-init : goal.loop-input-init
loop-input-init g c = appended_none _ _ _

pub loop-input-preserved : goal.loop-input-preserved
loop-input-preserved g c =
    let n = c.args.aig.now.inputs in
    appended_item input_line (range_with_len 0 n) c.loop-input.input c.loop-input.input _ _ _ _ _ _ _ _ (omega (arith, length-range_with_len 0 n)) (at_range n c.loop-input.input (omega arith)) c.loop-input.invariant c.in_ok-put_line.ensures

pub returns-in_err-put_line : goal.returns-in_err-put_line
returns-in_err-put_line g c =
    let n = c.args.aig.now.inputs in
    appended_in_item input_line (range_with_len 0 n) c.loop-input.input c.loop-input.input _ _ _ _ _ _ _ _ _ (omega (arith, length-range_with_len 0 n)) (at_range n c.loop-input.input (omega arith)) c.loop-input.invariant c.in_err-put_line.ensures c.from_residual.ensures.0

pub returns : goal.returns
returns g c =
    let n = c.args.aig.now.inputs in
    appended_items input_line (range_with_len 0 n) c.loop-input.input _ _ (omega (arith, length-range_with_len 0 n)) c.loop-input.invariant
