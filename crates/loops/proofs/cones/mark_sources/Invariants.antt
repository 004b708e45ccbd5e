use Rattle.loops.specs.Cones.{AddMarks, IsOnPin}
use Rattle.loops.proofs.cones.mark_sources.Given as goal

abbrev pub invariant-loop-pin : goal.invariant-loop-pin
invariant-loop-pin l = AddMarks (IsOnPin l.net l.pin-index l.gate) l.fn.marks l.marks
