use Rattle.std.proofs.Common.{take}
use Rattle.blif_write.specs.Putting.{names_behind}
use Rattle.blif_write.proofs.Common.{IsAppendedWhole, sink_call}
use Rattle.blif_write.proofs.names.put_names.Given as goal

abbrev pub invariant-loop-sig : goal.invariant-loop-sig
invariant-loop-sig g l = IsAppendedWhole (names_behind l.net (take l.sig-index l.sigs)) (sink_call g.K.Sink.put g.K.Sink.faults l.fn.sink l.sink)
