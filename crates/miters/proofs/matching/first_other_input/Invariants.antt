use Rattle.std.proofs.Common.{◌≡◌, not, take, None}
use Rattle.miters.proofs.Common.{find, is_input}
use Rattle.miters.proofs.matching.first_other_input.Given as goal

abbrev pub invariant-loop-number : goal.invariant-loop-number
invariant-loop-number l = find (λ item. not (is_input l.other item)) (take l.number l.net.inputs) ≡ None
