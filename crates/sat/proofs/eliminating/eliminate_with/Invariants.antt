use Rattle.sat.specs.Cnf.{Extends}
use Rattle.sat.proofs.eliminating.eliminate_with.Given as goal

abbrev pub invariant-loop-most : goal.invariant-loop-most
invariant-loop-most l = Extends l.fn.database l.database
