use Rattle.std.proofs.Common.{take}
use Rattle.std.specs.Prelude.{All}
use Rattle.sched_text.proofs.Common.{flat_map, round_text, AreSmall, IsAppendedWhole, sink_call}
use Rattle.sched_text.proofs.put.put_rounds.Given as goal

abbrev pub invariant-loop-round : goal.invariant-loop-round
invariant-loop-round g l = record {
  text : IsAppendedWhole (flat_map (round_text l.net) (take l.round-index l.rounds)) (sink_call g.K.Sink.put g.K.Sink.faults l.fn.sink l.sink);
  small : All AreSmall (take l.round-index l.rounds);
}
