use Rattle.std.proofs.Common.{◌≡◌}
use Rattle.sat.specs.Cnf.{Extends}
use Rattle.sat.proofs.learning.fix_all.Given as goal

abbrev pub invariant-loop : goal.invariant-loop
invariant-loop l = record { extends : Extends l.initial.database l.database; values : l.search.trail.values ≡ l.initial.search.trail.values }
