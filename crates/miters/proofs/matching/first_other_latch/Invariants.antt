use Rattle.std.proofs.Common.{◌≡◌, not, take, None}
use Rattle.miters.proofs.Common.{find, has_latch}
use Rattle.miters.proofs.matching.first_other_latch.Given as goal

abbrev pub invariant-loop-number : goal.invariant-loop-number
invariant-loop-number l = find (λ item. not (has_latch l.other item)) (take l.number l.net.latches) ≡ None
