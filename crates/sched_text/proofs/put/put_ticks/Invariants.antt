use Rattle.std.proofs.Common.{take}
use Rattle.std.specs.Prelude.{All}
use Rattle.sched_text.proofs.Common.{flat_map, tick_text, AreSmall, IsAppendedWhole, sink_call}
use Rattle.sched_text.proofs.put.put_ticks.Given as goal

abbrev pub invariant-loop-tick : goal.invariant-loop-tick
invariant-loop-tick g l = record {
  text : IsAppendedWhole (flat_map (tick_text l.net) (take l.tick-index l.ticks)) (sink_call g.K.Sink.put g.K.Sink.faults l.fn.sink l.sink);
  small : All (All AreSmall) (take l.tick-index l.ticks);
}
