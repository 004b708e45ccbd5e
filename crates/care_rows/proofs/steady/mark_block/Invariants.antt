use Rattle.care_rows.specs.Steady.{AreSteadyBefore}
use Rattle.care_rows.proofs.steady.mark_block.Given as goal

abbrev pub invariant-loop-gate : goal.invariant-loop-gate
invariant-loop-gate l = AreSteadyBefore l.looped.net l.looped.blocks l.place l.gate-index l.marks
