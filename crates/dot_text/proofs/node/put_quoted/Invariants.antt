use Rattle.std.proofs.Common.{take}
use Rattle.dot_text.proofs.Common.{flat_map, IsAppendedWhole, sink_call}
use Rattle.dot_text.specs.Dot.{quoted_byte}
use Rattle.dot_text.proofs.node.put_quoted.Given as goal

abbrev pub invariant-loop-byte : goal.invariant-loop-byte
invariant-loop-byte g l = IsAppendedWhole (flat_map (quoted_byte) (take l.byte-index l.text)) (sink_call g.K.Sink.put g.K.Sink.faults l.fn.sink l.sink)
