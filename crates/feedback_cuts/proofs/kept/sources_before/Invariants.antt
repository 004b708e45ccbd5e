use Rattle.feedback_cuts.proofs.Common.{AreSourcesBelow}
use Rattle.feedback_cuts.proofs.kept.sources_before.Given as goal

abbrev pub invariant-loop-pin : goal.invariant-loop-pin
invariant-loop-pin l = AreSourcesBelow l.grouped.net l.grouped.blocks l.cut l.gate l.pin-index l.row
