use Rattle.std.proofs.Common.{take}
use Rattle.dot_text.proofs.Common.{flat_map, loops_of, loop_wire, IsAppendedWhole, sink_call}
use Rattle.dot_text.proofs.loop_graph.put_reads.Given as goal

abbrev pub invariant-loop-pin : goal.invariant-loop-pin
invariant-loop-pin g l = IsAppendedWhole (flat_map (loop_wire l.looped.net (loops_of l.looped.net) l.gate) (take l.pin-index l.pins)) (sink_call g.K.Sink.put g.K.Sink.faults l.fn.sink l.sink)
