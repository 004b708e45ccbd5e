use Rattle.std.proofs.Common.{take}
use Rattle.blif_write.specs.Putting.{lits_text}
use Rattle.blif_write.proofs.Common.{IsAppendedWhole, sink_call}
use Rattle.blif_write.proofs.gates.put_lits.Given as goal

abbrev pub invariant-loop-lit : goal.invariant-loop-lit
invariant-loop-lit g l = IsAppendedWhole (lits_text (take l.lit-index l.lits)) (sink_call g.K.Sink.put g.K.Sink.faults l.fn.sink l.sink)
