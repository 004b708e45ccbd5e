use Rattle.std.proofs.Common.{◌≡◌, ℕ, List, ◌++◌}
use Rattle.aig_core.specs.Text.{groups}
use Rattle.aig_core.proofs.Common.{IsAppendedWhole, sink_call}
use Rattle.aig_core.proofs.binary.put_groups.Given as goal

abbrev pub invariant-loop-rest : goal.invariant-loop-rest
invariant-loop-rest g l =
    (front : List ℕ) × (front ++ groups l.rest ≡ groups l.number) × IsAppendedWhole front (sink_call g.K.Sink.put g.K.Sink.faults l.fn.sink l.sink)

abbrev pub decreases-loop-rest : goal.decreases-loop-rest
decreases-loop-rest g l = l.rest
