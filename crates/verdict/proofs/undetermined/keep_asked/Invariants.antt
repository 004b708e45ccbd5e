use Rattle.std.proofs.Common.{◌≡◌, ℕ, ◌<◌, true}
use Rattle.verdict.proofs.Common.{is_marked}
use Rattle.verdict.specs.Unknown.{IsAskedFor}
use Rattle.verdict.proofs.undetermined.keep_asked.Given as goal

abbrev pub invariant-loop-place : goal.invariant-loop-place
invariant-loop-place l = record {
  kept : (k : ℕ) → IsAskedFor l.observed l.last k → is_marked l.marks k ≡ is_marked l.fn.marks k;
  only : (k : ℕ) → k < l.place → is_marked l.marks k ≡ true → IsAskedFor l.observed l.last k;
}
