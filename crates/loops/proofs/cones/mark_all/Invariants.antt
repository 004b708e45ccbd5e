use Rattle.loops.specs.Cones.{AddMarks}
use Rattle.loops.proofs.MarkLemmas.{IsAmongFirst}
use Rattle.loops.proofs.cones.mark_all.Given as goal

abbrev pub invariant-loop-gate : goal.invariant-loop-gate
invariant-loop-gate l = AddMarks (IsAmongFirst l.gates l.gate-index) l.fn.marks l.marks
