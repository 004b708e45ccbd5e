use Rattle.std.proofs.Common.{◌≡◌, ◌++◌}
use Rattle.probes.proofs.Common.{code}
use Rattle.probes.proofs.code.put_code.Given as goal

abbrev pub invariant-loop-n : goal.invariant-loop-n
invariant-loop-n l = l.text.items ++ code l.n ≡ l.fn.text.items ++ code l.number

abbrev pub decreases-loop-n : goal.decreases-loop-n
decreases-loop-n l = l.n
