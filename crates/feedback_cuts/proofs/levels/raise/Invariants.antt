use Rattle.feedback_cuts.specs.Keeping.{IsRaised}
use Rattle.feedback_cuts.proofs.levels.raise.Given as goal

abbrev pub invariant-loop-gate : goal.invariant-loop-gate
invariant-loop-gate l = IsRaised l.gates l.gate-index l.least l.initial.levels l.levels
