use Rattle.std.proofs.Common.{◌≡◌, List, All, length, take}
use Rattle.cyc_base.specs.declared.trit.Trit.{Trit}
use Rattle.cyc_base.specs.Values.{EachBelow}
use Rattle.case_split.specs.Cases.{Holds}
use Rattle.case_split.proofs.cases.know.Given as goal

abbrev pub invariant-loop-literal : goal.invariant-loop-literal
invariant-loop-literal l = (length l.given.items ≡ length l.fn.given.items) × ((v : List Trit) → EachBelow l.fn.given.items v → All (Holds v) (take l.literal-index l.values) → EachBelow l.given.items v)
