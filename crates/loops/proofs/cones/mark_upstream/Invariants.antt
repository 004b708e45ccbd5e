use Rattle.loops.specs.Cones.{AreMarkedFrom}
use Rattle.loops.proofs.cones.mark_upstream.Given as goal

abbrev pub invariant-loop-place : goal.invariant-loop-place
invariant-loop-place l = AreMarkedFrom l.looped.net l.looped.blocks l.fn.marks l.place l.marks
