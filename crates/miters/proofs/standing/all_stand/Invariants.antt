use Rattle.std.proofs.Common.{ℕ, ◌<◌}
use Rattle.miters.specs.Placed.{StandsAt}
use Rattle.miters.proofs.standing.all_stand.Given as goal

abbrev pub invariant-loop-number : goal.invariant-loop-number
invariant-loop-number l = (n : ℕ) → n < l.number → StandsAt l.a l.b l.columns l.places n
