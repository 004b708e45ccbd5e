use Rattle.care_rows.specs.Steady.{AreSteadyBefore}
use Rattle.care_rows.proofs.steady.mark_steady.Given as goal

abbrev pub invariant-loop-place : goal.invariant-loop-place
invariant-loop-place l = AreSteadyBefore l.looped.net l.looped.blocks l.place 0 l.marks
