use Rattle.std.proofs.Common.{take}
use Rattle.blif_write.proofs.Common.{flat_map, line_text, latch_line, IsAppendedWhole, sink_call}
use Rattle.blif_write.proofs.latches.put_latches.Given as goal

abbrev pub invariant-loop-i : goal.invariant-loop-i
invariant-loop-i g l = IsAppendedWhole (flat_map (λ latch. line_text (latch_line l.net latch)) (take l.i l.net.latches)) (sink_call g.K.Sink.put g.K.Sink.faults l.fn.sink l.sink)
