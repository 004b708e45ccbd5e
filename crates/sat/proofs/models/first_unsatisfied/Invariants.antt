use Rattle.std.proofs.Common.{ℕ, ◌<◌, get_or, []}
use Rattle.sat.specs.Cnf.{IsSatisfied}
use Rattle.sat.specs.Values.{valuation}
use Rattle.sat.proofs.models.first_unsatisfied.Given as goal

abbrev pub invariant-loop-number : goal.invariant-loop-number
invariant-loop-number l = (k : ℕ) → k < l.number → IsSatisfied (valuation l.trail.values.items) (get_or l.formula k [])
