use Rattle.std.proofs.Common.{◌-◌}
use Rattle.std.specs.List.{All}
use Rattle.sat.specs.Cnf.{Entails}
use Rattle.sat.proofs.engine.Engine.run.Given as goal

abbrev pub invariant-loop-met : goal.invariant-loop-met
invariant-loop-met l = All (Entails l.formula) l.self.database

abbrev pub decreases-loop-met : goal.decreases-loop-met
decreases-loop-met l = l.conflicts - l.met
