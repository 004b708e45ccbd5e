use Rattle.std.proofs.Common.{◌∙◌, false, ap, set, arith}
use Rattle.bdd_ops.proofs.LeastLemmas.{cleared-more, cleared-all}
use Rattle.bdd_ops.proofs.least.clear.Goals as goal

pub loop-bit-preserved : goal.loop-bit-preserved
loop-bit-preserved c = ap (λ l. set l c.loop-bit.bit-index false) c.loop-bit.invariant ∙ cleared-more c.loop-bit.bit-index c.args.out.now c.loop-bit-test.true

pub returns : goal.returns
returns c = grind (arith, cleared-all)
