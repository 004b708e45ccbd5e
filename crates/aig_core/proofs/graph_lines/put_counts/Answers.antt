use Rattle.std.proofs.Common.{length, ap, sym, ◌∙◌, arith}
use Rattle.aig_core.proofs.Common.{appended_then, appended_cut, appended_equal}
use Rattle.aig_core.proofs.TextLemmas.{few_outputs, head_is}
use Rattle.aig_core.proofs.graph_lines.put_counts.Goals as goal

pub overflow_cast-outputs : goal.overflow_cast-outputs
overflow_cast-outputs g c = grind (arith, few_outputs c.args.net.now c.outputs.ensures.valid)

pub returns-in_err-write_whole : goal.returns-in_err-write_whole
returns-in_err-write_whole g c =
    appended_equal _ _ _ _
    (head_is c.args.word.now c.args.built.now c.inputs-inputs.result c.latches-latches.result (length c.outputs.result.now) c.count-ands.result c.inputs-inputs.ensures.inputs c.latches-latches.ensures.latches (ap length c.outputs.ensures.outputs ∙ sym c.requires.output_count) c.count-ands.ensures.count)
    (appended_cut _ _ _ _ _ c.in_err-write_whole.ensures c.from_residual.ensures.0)

pub returns : goal.returns
returns g c =
    appended_equal _ _ _ _
    (head_is c.args.word.now c.args.built.now c.inputs-inputs.result c.latches-latches.result (length c.outputs.result.now) c.count-ands.result c.inputs-inputs.ensures.inputs c.latches-latches.ensures.latches (ap length c.outputs.ensures.outputs ∙ sym c.requires.output_count) c.count-ands.ensures.count)
    (appended_then _ _ _ _ _ _ _ _ _ _ c.in_ok-write_whole.ensures c.put_line.ensures)
