use Rattle.std.proofs.Common.{take}
use Rattle.std.specs.List.{All}
use Rattle.loops.specs.Sweeps.{first_gate}
use Rattle.case_split.specs.Cases.{IsUsable}
use Rattle.case_search.proofs.cases_shown.are_usable.Given as goal

abbrev pub invariant-loop-case : goal.invariant-loop-case
invariant-loop-case l = All (IsUsable (first_gate l.net)) (take l.case-index l.cases)
