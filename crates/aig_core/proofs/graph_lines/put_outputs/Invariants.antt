use Rattle.std.proofs.Common.{take}
use Rattle.aig_core.proofs.Common.{flat_map, output_line, IsAppendedWhole, sink_call}
use Rattle.aig_core.proofs.graph_lines.put_outputs.Given as goal

abbrev pub invariant-loop-output : goal.invariant-loop-output
invariant-loop-output g l = IsAppendedWhole (flat_map output_line (take l.output-index l.outputs)) (sink_call g.K.Sink.put g.K.Sink.faults l.fn.sink l.sink)
