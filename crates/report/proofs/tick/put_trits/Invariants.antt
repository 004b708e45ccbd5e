use Rattle.std.proofs.Common.{take}
use Rattle.report.proofs.Common.{flat_map, trit_text, IsAppendedWhole, sink_call}
use Rattle.report.proofs.tick.put_trits.Given as goal

abbrev pub invariant-loop-t : goal.invariant-loop-t
invariant-loop-t g l = IsAppendedWhole (flat_map trit_text (take l.t-index l.trits)) (sink_call g.K.Sink.put g.K.Sink.faults l.fn.sink l.sink)
