use Rattle.std.proofs.Common.{◌≡◌, All, take}
use Rattle.case_split.specs.Cubes.{asked_of, literal_of}
use Rattle.case_split.proofs.cubes.is_cube.Given as goal

abbrev pub invariant-loop-literal : goal.invariant-loop-literal
invariant-loop-literal l = All (λ literal. asked_of l.cube literal.column ≡ literal_of literal.value) (take l.literal-index l.cube)
