use Rattle.std.proofs.Common.{take}
use Rattle.clause_pairs.specs.Missing.{SaysMissing}
use Rattle.clause_pairs.proofs.cubes.add_missing_each.Given as goal

abbrev pub invariant-loop-cube : goal.invariant-loop-cube
invariant-loop-cube l = SaysMissing l.fn.formula l.formula l.rails (take l.cube-index l.cubes)
