use Rattle.std.proofs.Common.{take}
use Rattle.sched_text.proofs.Common.{flat_map, line_text, past_line, IsAppendedWhole, sink_call}
use Rattle.sched_text.proofs.put.put_past.Given as goal

abbrev pub invariant-loop-moment : goal.invariant-loop-moment
invariant-loop-moment g l = IsAppendedWhole (flat_map (λ moment. line_text (past_line moment)) (take l.moment-index l.past)) (sink_call g.K.Sink.put g.K.Sink.faults l.fn.sink l.sink)
