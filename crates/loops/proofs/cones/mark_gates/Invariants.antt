use Rattle.loops.specs.Cones.{AddMarks, IsNearOne}
use Rattle.loops.proofs.cones.mark_gates.Given as goal

abbrev pub invariant-loop-gate : goal.invariant-loop-gate
invariant-loop-gate l = AddMarks (IsNearOne l.net l.gates l.gate-index) l.fn.marks l.marks
