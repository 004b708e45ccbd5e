use Rattle.std.proofs.Common.{take}
use Rattle.aig_core.proofs.Common.{flat_map, range_with_len, input_line, IsAppendedWhole, sink_call}
use Rattle.aig_core.proofs.graph_lines.put_inputs.Given as goal

abbrev pub invariant-loop-input : goal.invariant-loop-input
invariant-loop-input g l = IsAppendedWhole (flat_map input_line (take l.input (range_with_len 0 l.aig.inputs))) (sink_call g.K.Sink.put g.K.Sink.faults l.fn.sink l.sink)
