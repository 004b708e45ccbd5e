use Rattle.std.proofs.Common.{take}
use Rattle.dot_text.proofs.Common.{flat_map, IsAppendedWhole, sink_call}
use Rattle.dot_text.specs.LoopGraphs.{gate_node}
use Rattle.dot_text.proofs.loop_graph.put_gates.Given as goal

abbrev pub invariant-loop-gate : goal.invariant-loop-gate
invariant-loop-gate g l = IsAppendedWhole (flat_map (gate_node l.looped.net) (take l.gate-index l.gates)) (sink_call g.K.Sink.put g.K.Sink.faults l.fn.sink l.sink)
