use Rattle.std.proofs.Common.{arith}
use Rattle.case_split.proofs.SplitLemmas.{product_small}
use Rattle.case_split.proofs.splitting.size_of.Goals as goal

pub overflow_mul-result : goal.overflow_mul-result
overflow_mul-result c =
    let p = product_small c.args.cases c.args.count c.requires.cases (let r = c.ranges.count.fits in omega arith) in
    grind (arith, p, c.from-3.ensures)
