use Rattle.std.proofs.Common.{◌≡◌, map, take}
use Rattle.case_search.specs.Cases.{cube_of}
use Rattle.case_search.proofs.cases_shown.cubes_of.Given as goal

abbrev pub invariant-loop-case : goal.invariant-loop-case
invariant-loop-case l = l.cubes.items ≡ map cube_of (take l.case-index l.cases)
