use Rattle.std.proofs.Common.{◌≡◌, take}
use Rattle.std.specs.List.{All}
use Rattle.sat.specs.declared.values.Truth.TheVariants.{True}
use Rattle.sat.specs.Values.{value_of}
use Rattle.sat.proofs.decisions.next_assumption.Given as goal

abbrev pub invariant-loop-assumption : goal.invariant-loop-assumption
invariant-loop-assumption l = All (λ x. value_of l.trail.values.items x ≡ True) (take l.assumption-index l.assumptions)
