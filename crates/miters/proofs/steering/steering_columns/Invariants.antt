use Rattle.std.proofs.Common.{◌≡◌, ◌<◌, ◌≤◌, length, All}
use Rattle.miters.proofs.Common.{columns}
use Rattle.miters.proofs.steering.steering_columns.Given as goal

abbrev pub invariant-loop : goal.invariant-loop
invariant-loop l = (length l.counts.items ≡ columns l.looped.net) × (length l.counts.items ≤ 4294967295) × All (λ column. column < columns l.looped.net) l.steering.items
