use Rattle.std.proofs.Common.{◌≡◌, map, take}
use Rattle.assumptions.specs.Implied.{excluded_row, other_value}
use Rattle.assumptions.proofs.implied.refuting_rows.Given as goal

abbrev pub invariant-loop-other : goal.invariant-loop-other
invariant-loop-other l = l.rows.items ≡ map (λ other. excluded_row (other_value other)) (take l.other-index l.others)
