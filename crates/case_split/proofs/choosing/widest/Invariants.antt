use Rattle.std.proofs.Common.{◌≤◌, All, length, take}
use Rattle.case_split.proofs.choosing.widest.Given as goal

abbrev pub invariant-loop-case : goal.invariant-loop-case
invariant-loop-case l = All (λ case. length case.cube.items ≤ l.most) (take l.case-index l.cases) × (l.most ≤ 1000)
