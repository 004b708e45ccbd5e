use Rattle.std.proofs.Common.{◌*◌, ◌<◌, ◌≤◌, ℕ, [], ◌∷◌, slice_index_or}
use Rattle.fixpoint.proofs.Common.{HasGrown, IsWide, Rails, SameRailsOn, IsCompared}
use Rattle.fixpoint.proofs.counting.agree_on.Given as goal

abbrev pub invariant-loop-place : goal.invariant-loop-place
invariant-loop-place l = record {
  grows : HasGrown l.fn.d l.d (IsWide l.fn.d.vars (IsCompared l.fn.d l.care (l.step ∷ l.last ∷ []))) (4 * l.place);
  within : l.place ≤ l.place-end;
  same : (place : ℕ) (none : Rails) → place < l.place → SameRailsOn l.fn.d l.care (slice_index_or l.step place none) (slice_index_or l.last place none);
}
