use Rattle.verdict.proofs.Common.{AreLoopCounts}
use Rattle.verdict.proofs.counts.sweeps_on_care.Given as goal

abbrev pub invariant-loop-place : goal.invariant-loop-place
invariant-loop-place l = AreLoopCounts l.question.net l.question.blocks l.question.cut l.question.care l.place l.counts.items
