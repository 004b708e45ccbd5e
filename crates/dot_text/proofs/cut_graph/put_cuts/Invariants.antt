use Rattle.std.proofs.Common.{take}
use Rattle.dot_text.proofs.Common.{flat_map, IsAppendedWhole, sink_call, loops_of}
use Rattle.dot_text.specs.LoopGraphs.{cut_node}
use Rattle.dot_text.proofs.cut_graph.put_cuts.Given as goal

abbrev pub invariant-loop-gate : goal.invariant-loop-gate
invariant-loop-gate g l = IsAppendedWhole (flat_map (cut_node l.looped.net (loops_of l.looped.net)) (take l.gate-index l.gates)) (sink_call g.K.Sink.put g.K.Sink.faults l.fn.sink l.sink)
