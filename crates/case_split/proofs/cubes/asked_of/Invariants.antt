use Rattle.std.proofs.Common.{◌≡◌, drop}
use Rattle.case_split.specs.Cubes.{asked_of}
use Rattle.case_split.proofs.cubes.asked_of.Given as goal

abbrev pub invariant-loop-literal : goal.invariant-loop-literal
invariant-loop-literal l = asked_of l.cube l.column ≡ asked_of (drop l.literal-index l.cube) l.column
