use Rattle.std.proofs.Common.{take, ◌++◌}
use Rattle.aig_core.proofs.Common.{codes, decimal, flat_map, IsAppendedWhole, sink_call}
use Rattle.aig_core.proofs.lines.put_next_numbers.Given as goal

abbrev pub invariant-loop-number : goal.invariant-loop-number
invariant-loop-number g l = IsAppendedWhole (flat_map (λ number. codes " " ++ decimal number) (take l.number-index l.numbers)) (sink_call g.K.Sink.put g.K.Sink.faults l.fn.sink l.sink)
