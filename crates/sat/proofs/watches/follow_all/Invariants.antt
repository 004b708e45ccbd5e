use Rattle.std.proofs.Common.{◌≤◌}
use Rattle.sat.specs.Values.{open_count}
use Rattle.sat.proofs.watches.follow_all.Given as goal

abbrev pub invariant-loop-implied : goal.invariant-loop-implied
invariant-loop-implied l = open_count l.trail.values.items ≤ open_count l.initial.trail.values.items
