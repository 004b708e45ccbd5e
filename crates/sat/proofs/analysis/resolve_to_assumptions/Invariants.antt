use Rattle.sat.specs.Cnf.{Entails}
use Rattle.sat.proofs.analysis.resolve_to_assumptions.Given as goal

abbrev pub invariant-loop-pivot : goal.invariant-loop-pivot
invariant-loop-pivot l = Entails l.database l.working.lits.items
