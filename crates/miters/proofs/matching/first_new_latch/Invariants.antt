use Rattle.std.proofs.Common.{◌≡◌, not, take, None}
use Rattle.miters.proofs.Common.{find, is_latch}
use Rattle.miters.proofs.matching.first_new_latch.Given as goal

abbrev pub invariant-loop-number : goal.invariant-loop-number
invariant-loop-number l = find (λ item. not (is_latch l.other item.name)) (take l.number l.net.latches) ≡ None
