use Rattle.std.proofs.Common.{take}
use Rattle.cyc_io.specs.Bits.{bits_text}
use Rattle.cyc_io.specs.Taken.{IsAppendedWhole, sink_call}
use Rattle.cyc_io.proofs.put.put_bits.Given as goal

abbrev pub invariant-loop-bit : goal.invariant-loop-bit
invariant-loop-bit g l = IsAppendedWhole (bits_text (take l.bit-index l.bits)) (sink_call g.K.Sink.put g.K.Sink.faults l.fn.sink l.sink)
