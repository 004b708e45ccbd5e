use Rattle.std.proofs.Common.{take, length}
use Rattle.explain_text.proofs.Common.{flat_map, range_with_len, IsAppendedWhole, sink_call, needed_column}
use Rattle.explain_text.proofs.explanation.put_needed_columns.Given as goal

abbrev pub invariant-loop-column : goal.invariant-loop-column
invariant-loop-column g l =
    IsAppendedWhole (flat_map (needed_column l.net l.needs) (take l.column (range_with_len 0 (length l.needs))))
    (sink_call g.K.Sink.put g.K.Sink.faults l.fn.sink l.sink)
