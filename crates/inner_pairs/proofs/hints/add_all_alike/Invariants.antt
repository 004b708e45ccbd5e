use Rattle.std.proofs.Common.{All, []}
use Rattle.inner_pairs.proofs.Common.{IsPairOf, joined}
use Rattle.inner_pairs.proofs.hints.add_all_alike.Given as goal

abbrev pub invariant-loop-gate : goal.invariant-loop-gate
invariant-loop-gate l = All (λ hint. IsPairOf (joined l.a l.b []) hint.pair) l.hints.items
