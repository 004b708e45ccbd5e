use Rattle.sat.specs.Cnf.{Extends}
use Rattle.sat.proofs.eliminating.try_all.Given as goal

abbrev pub invariant-loop-code : goal.invariant-loop-code
invariant-loop-code l = Extends l.fn.database l.database
