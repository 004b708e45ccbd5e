use Rattle.feedback_cuts.proofs.Common.{HaveGained}
use Rattle.feedback_cuts.proofs.kept.add_source.Given as goal

abbrev pub invariant-loop-reader : goal.invariant-loop-reader
invariant-loop-reader l = HaveGained l.readers l.gate l.reader-index l.initial.sources l.sources
