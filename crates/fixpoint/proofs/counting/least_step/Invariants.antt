use Rattle.std.proofs.Common.{◌*◌, ◌<◌, ◌≤◌, ℕ}
use Rattle.fixpoint.proofs.Common.{HasGrown, IsWide, step_at, last_step, AgreeOn, IsCompared}
use Rattle.fixpoint.proofs.counting.least_step.Given as goal

abbrev pub invariant-loop-number : goal.invariant-loop-number
invariant-loop-number l = record {
  grows : HasGrown l.fn.d l.d (IsWide l.fn.d.vars (IsCompared l.fn.d l.care l.steps)) (4 * l.width * l.number);
  within : l.number ≤ l.end;
  none : (j : ℕ) → j < l.number → ¬ AgreeOn l.fn.d l.care (step_at l.steps j) (last_step l.steps);
}
