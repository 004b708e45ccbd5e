use Rattle.std.proofs.Common.{take}
use Rattle.dot_text.proofs.Common.{flat_map, IsAppendedWhole, sink_call, gate_box, picture_seen}
use Rattle.dot_text.proofs.explanation_graph.put_boxes.Given as goal

abbrev pub invariant-loop-gate : goal.invariant-loop-gate
invariant-loop-gate g l = IsAppendedWhole (flat_map (gate_box (picture_seen l.drawing)) (take l.gate-index l.gate-items)) (sink_call g.K.Sink.put g.K.Sink.faults l.fn.sink l.sink)
