use Rattle.std.proofs.Common.{take}
use Rattle.std.specs.Prelude.{All}
use Rattle.sched_text.proofs.Common.{flat_map, event_text, HasSmallAges, IsAppendedWhole, sink_call}
use Rattle.sched_text.proofs.put.put_events.Given as goal

abbrev pub invariant-loop-i : goal.invariant-loop-i
invariant-loop-i g l = record {
  text : IsAppendedWhole (flat_map (event_text l.net) (take l.i l.events)) (sink_call g.K.Sink.put g.K.Sink.faults l.fn.sink l.sink);
  small : All HasSmallAges (take l.i l.events);
}
