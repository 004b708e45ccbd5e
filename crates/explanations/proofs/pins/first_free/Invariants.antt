use Rattle.std.proofs.Common.{ℕ, ◌<◌, ◌≡◌, false, get_or}
use Rattle.explanations.specs.declared.pins.Pin.TheVariants.{Free}
use Rattle.explanations.specs.Pins.{is_free}
use Rattle.explanations.proofs.pins.first_free.Given as goal

abbrev pub invariant-loop-place : goal.invariant-loop-place
invariant-loop-place l = (k : ℕ) → k < l.place → is_free (get_or l.pins k Free) ≡ false
