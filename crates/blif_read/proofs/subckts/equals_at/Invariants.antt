use Rattle.std.proofs.Common.{◌≡◌, ℕ, ◌<◌, get_or, false}
use Rattle.blif_read.proofs.Common.{is_equals}
use Rattle.blif_read.proofs.subckts.equals_at.Given as goal

abbrev pub invariant-loop-at : goal.invariant-loop-at
invariant-loop-at l = (k : ℕ) → k < l.at → is_equals (get_or l.word k 0) ≡ false
