use Rattle.std.proofs.Common.{take}
use Rattle.dot_text.proofs.Common.{flat_map, IsAppendedWhole, sink_call, quoted_line, picture_seen}
use Rattle.dot_text.proofs.explanation_graph.put_lines.Given as goal

abbrev pub invariant-loop-pin : goal.invariant-loop-pin
invariant-loop-pin g l = IsAppendedWhole (flat_map (quoted_line (picture_seen l.drawing) l.gate) (take l.pin-index l.pins)) (sink_call g.K.Sink.put g.K.Sink.faults l.fn.sink l.sink)
