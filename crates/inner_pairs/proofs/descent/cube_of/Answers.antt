use Rattle.std.proofs.Common.{false, get_or, arith}
use Rattle.inner_pairs.proofs.Common.{map-range_with_len_more}
use Rattle.inner_pairs.proofs.CaseLemmas.{fixed_at}
use Rattle.inner_pairs.proofs.descent.cube_of.Goals as goal

pub loop-column-preserved : goal.loop-column-preserved
loop-column-preserved c =
    let n = c.loop-column.column in
    grind (arith, map-range_with_len_more (λ column. fixed_at column (get_or c.args.values.now column false)) 0 n n)
