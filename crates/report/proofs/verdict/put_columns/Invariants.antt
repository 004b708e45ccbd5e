use Rattle.std.proofs.Common.{take}
use Rattle.report.proofs.Common.{flat_map, IsAppendedWhole, sink_call, column_text}
use Rattle.report.proofs.ColumnLemmas.{columns_of}
use Rattle.report.proofs.verdict.put_columns.Given as goal

abbrev pub invariant-loop-i : goal.invariant-loop-i
invariant-loop-i g l =
    IsAppendedWhole (flat_map column_text (take l.i (columns_of l.net l.first l.values)))
    (sink_call g.K.Sink.put g.K.Sink.faults l.fn.sink l.sink)
