use Rattle.std.proofs.Common.{◌<◌, ℕ, All}
use Rattle.inner_pairs.proofs.descent.columns_behind.Given as goal

abbrev pub invariant-loop-column : goal.invariant-loop-column
invariant-loop-column l = (most : ℕ) → All (λ column. column < most) l.columns → All (λ column. column < most) l.behind.items
