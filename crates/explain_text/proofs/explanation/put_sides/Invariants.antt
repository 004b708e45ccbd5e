use Rattle.std.proofs.Common.{take, length}
use Rattle.explain_text.proofs.Common.{flat_map, range_with_len, IsAppendedWhole, sink_call, side_of}
use Rattle.explain_text.proofs.explanation.put_sides.Given as goal

abbrev pub invariant-loop-signal : goal.invariant-loop-signal
invariant-loop-signal g l =
    IsAppendedWhole (flat_map (side_of l.net l.sides) (take l.signal (range_with_len 0 (length l.sides))))
    (sink_call g.K.Sink.put g.K.Sink.faults l.fn.sink l.sink)
