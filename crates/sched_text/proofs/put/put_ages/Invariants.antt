use Rattle.std.proofs.Common.{take}
use Rattle.sched_text.proofs.Common.{decimal, flat_map, after_blank, IsSmall, IsAppendedWhole, sink_call}
use Rattle.std.specs.Prelude.{All}
use Rattle.sched_text.proofs.put.put_ages.Given as goal

abbrev pub invariant-loop-age : goal.invariant-loop-age
invariant-loop-age g l = record {
  text : IsAppendedWhole (flat_map (λ age. after_blank (decimal age)) (take l.age-index l.ages)) (sink_call g.K.Sink.put g.K.Sink.faults l.fn.sink l.sink);
  small : All IsSmall (take l.age-index l.ages);
}
