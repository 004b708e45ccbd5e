use Rattle.std.proofs.Common.{take}
use Rattle.dot_text.proofs.Common.{flat_map, loops_of, IsAppendedWhole, sink_call}
use Rattle.dot_text.specs.LoopGraphs.{loop_wires}
use Rattle.dot_text.proofs.loop_graph.put_wires.Given as goal

abbrev pub invariant-loop-gate : goal.invariant-loop-gate
invariant-loop-gate g l = IsAppendedWhole (flat_map (loop_wires l.looped.net (loops_of l.looped.net)) (take l.gate-index l.gates)) (sink_call g.K.Sink.put g.K.Sink.faults l.fn.sink l.sink)
