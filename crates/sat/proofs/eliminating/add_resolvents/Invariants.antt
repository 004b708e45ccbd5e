use Rattle.sat.specs.Cnf.{Extends}
use Rattle.sat.proofs.eliminating.add_resolvents.Given as goal

abbrev pub invariant-loop-place : goal.invariant-loop-place
invariant-loop-place l = Extends l.fn.database l.database
