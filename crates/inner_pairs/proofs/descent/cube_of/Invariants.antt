use Rattle.std.proofs.Common.{◌≡◌, false, map, get_or}
use Rattle.inner_pairs.proofs.Common.{range_with_len}
use Rattle.inner_pairs.proofs.CaseLemmas.{fixed_at}
use Rattle.inner_pairs.proofs.descent.cube_of.Given as goal

abbrev pub invariant-loop-column : goal.invariant-loop-column
invariant-loop-column l = l.cube.items ≡ map (λ column. fixed_at column (get_or l.values column false)) (range_with_len 0 l.column)
