use Rattle.std.proofs.Common.{take}
use Rattle.dot_text.proofs.Common.{flat_map, IsAppendedWhole, sink_call, loops_of}
use Rattle.dot_text.specs.LoopGraphs.{wires_at}
use Rattle.dot_text.proofs.cut_graph.put_wires.Given as goal

abbrev pub invariant-loop-gate : goal.invariant-loop-gate
invariant-loop-gate g l = IsAppendedWhole (flat_map (wires_at l.looped.net (loops_of l.looped.net) l.number) (take l.gate-index l.gates)) (sink_call g.K.Sink.put g.K.Sink.faults l.fn.sink l.sink)
