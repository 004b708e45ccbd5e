use Rattle.std.proofs.Common.{take}
use Rattle.aig_core.proofs.Common.{flat_map, enumerate_from, and_line, IsAppendedWhole, sink_call}
use Rattle.aig_core.proofs.graph_lines.put_ands.Given as goal

abbrev pub invariant-loop-place : goal.invariant-loop-place
invariant-loop-place g l = IsAppendedWhole (flat_map (λ item. and_line l.aig item.0 item.1) (take l.place (enumerate_from 0 l.aig.ands))) (sink_call g.K.Sink.put g.K.Sink.faults l.fn.sink l.sink)
