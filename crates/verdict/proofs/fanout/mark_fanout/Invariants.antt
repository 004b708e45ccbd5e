use Rattle.verdict.specs.Fanout.{AreMarkedBefore}
use Rattle.verdict.proofs.fanout.mark_fanout.Given as goal

abbrev pub invariant-loop-place : goal.invariant-loop-place
invariant-loop-place l = AreMarkedBefore l.looped.net l.looped.blocks l.fn.marks l.place l.marks
