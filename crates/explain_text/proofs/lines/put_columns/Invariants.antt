use Rattle.std.proofs.Common.{take, []}
use Rattle.explain_text.proofs.Common.{if◌then◌else◌, range_with_len, is_marked, first_gate, column_name}
use Rattle.std.specs.List.{flat_map}
use Rattle.cyc_io.specs.Taken.{IsAppendedWhole, sink_call}
use Rattle.explain_text.proofs.lines.put_columns.Given as goal

abbrev pub invariant-loop-column : goal.invariant-loop-column
invariant-loop-column g l =
    IsAppendedWhole (flat_map (λ column. if is_marked l.read column then column_name l.net column else []) (take l.column (range_with_len 0 (first_gate l.net))))
    (sink_call g.K.Sink.put g.K.Sink.faults l.fn.sink l.sink)
