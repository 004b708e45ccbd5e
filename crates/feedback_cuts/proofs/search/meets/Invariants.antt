use Rattle.std.proofs.Common.{◌<◌, ℕ, get_or}
use Rattle.feedback_cuts.proofs.Common.{IsMarked}
use Rattle.feedback_cuts.proofs.search.meets.Given as goal

abbrev pub invariant-loop-gate : goal.invariant-loop-gate
invariant-loop-gate l = (j d : ℕ) → j < l.gate-index → ¬ IsMarked l.goal l.marks (get_or l.row j d)
