use Rattle.feedback_cuts.proofs.Common.{HaveGainedPins}
use Rattle.feedback_cuts.proofs.kept.add_reader.Given as goal

abbrev pub invariant-loop-pin : goal.invariant-loop-pin
invariant-loop-pin l = HaveGainedPins l.grouped.net l.grouped.blocks l.gate l.pin-index l.initial.readers l.readers
