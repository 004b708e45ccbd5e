use Rattle.std.proofs.Common.{take}
use Rattle.blif_write.proofs.Common.{flat_map, behind, IsAppendedWhole, sink_call}
use Rattle.blif_write.proofs.names.put_input_names.Given as goal

abbrev pub invariant-loop-i : goal.invariant-loop-i
invariant-loop-i g l = IsAppendedWhole (flat_map behind (take l.i l.net.inputs)) (sink_call g.K.Sink.put g.K.Sink.faults l.fn.sink l.sink)
