use Rattle.std.proofs.Common.{◌≡◌, ℕ, Contains}
use Rattle.verdict.proofs.Common.{is_marked}
use Rattle.verdict.proofs.loose.clear_gates.Given as goal

abbrev pub invariant-loop-gate : goal.invariant-loop-gate
invariant-loop-gate l = (n : ℕ) → ¬ Contains l.gates n → is_marked l.marks n ≡ is_marked l.fn.marks n
