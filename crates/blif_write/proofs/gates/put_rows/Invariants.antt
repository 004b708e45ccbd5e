use Rattle.std.proofs.Common.{take}
use Rattle.blif_write.specs.Putting.{rows_text}
use Rattle.blif_write.proofs.Common.{IsAppendedWhole, sink_call}
use Rattle.blif_write.proofs.gates.put_rows.Given as goal

abbrev pub invariant-loop-row : goal.invariant-loop-row
invariant-loop-row g l = IsAppendedWhole (rows_text l.plane (take l.row-index l.rows)) (sink_call g.K.Sink.put g.K.Sink.faults l.fn.sink l.sink)
