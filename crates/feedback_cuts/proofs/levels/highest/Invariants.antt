use Rattle.std.proofs.Common.{◌<◌, ◌≤◌, ℕ, get_or, Contains}
use Rattle.feedback_cuts.proofs.Common.{level_at}
use Rattle.feedback_cuts.proofs.levels.highest.Given as goal

abbrev pub invariant-loop-gate : goal.invariant-loop-gate
invariant-loop-gate l = record {
  above : (j d : ℕ) → j < l.gate-index → level_at l.levels (get_or l.gates j d) ≤ l.level;
  least : (bound : ℕ) → ((n : ℕ) → Contains l.gates n → level_at l.levels n ≤ bound) → l.level ≤ bound;
}
