use Rattle.std.specs.List.{All}
use Rattle.sat.specs.Cnf.{Entails}
use Rattle.sat.specs.Values.{open_count}
use Rattle.sat.proofs.engine.Engine.to_conflict.Given as goal

abbrev pub invariant-loop-verdict : goal.invariant-loop-verdict
invariant-loop-verdict l = All (Entails l.formula) l.self.database

abbrev pub decreases-loop-verdict : goal.decreases-loop-verdict
decreases-loop-verdict l = open_count l.self.search.trail.values.items
