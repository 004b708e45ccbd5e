use Rattle.std.proofs.Common.{◌≡◌, All, take}
use Rattle.case_split.proofs.choosing.common.Given as goal

abbrev pub invariant-loop-leaf : goal.invariant-loop-leaf
invariant-loop-leaf l = All (λ leaf. leaf ≡ l.first) (take l.leaf-index l.leaves)
