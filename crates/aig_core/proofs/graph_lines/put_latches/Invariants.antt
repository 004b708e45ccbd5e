use Rattle.std.proofs.Common.{take}
use Rattle.aig_core.proofs.Common.{flat_map, enumerate_from, latch_line, IsAppendedWhole, sink_call}
use Rattle.aig_core.proofs.graph_lines.put_latches.Given as goal

abbrev pub invariant-loop-place : goal.invariant-loop-place
invariant-loop-place g l = IsAppendedWhole (flat_map (λ item. latch_line l.built item.0 item.1) (take l.place (enumerate_from 0 l.net.latches))) (sink_call g.K.Sink.put g.K.Sink.faults l.fn.sink l.sink)
