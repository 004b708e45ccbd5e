use Rattle.verdict.proofs.Common.{AreScattered}
use Rattle.verdict.proofs.unknown.scatter.Given as goal

abbrev pub invariant-loop-place : goal.invariant-loop-place
invariant-loop-place l = AreScattered l.width l.places l.values l.place l.marks.items
