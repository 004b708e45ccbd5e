use Rattle.std.proofs.Common.{All, []}
use Rattle.inner_pairs.proofs.Common.{IsPairOf, joined}
use Rattle.inner_pairs.proofs.hints.alike_hints.Given as goal

abbrev pub invariant-loop-place : goal.invariant-loop-place
invariant-loop-place l = All (λ hint. IsPairOf (joined l.a l.b []) hint.pair) l.hints.items
