use Rattle.sat.specs.Cnf.{Entails}
use Rattle.sat.proofs.analysis.resolve_on_all.Given as goal

abbrev pub invariant-loop-lit : goal.invariant-loop-lit
invariant-loop-lit l = Entails l.database l.working.lits.items
