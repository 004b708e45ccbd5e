use Rattle.std.proofs.Common.{arith}
use Rattle.isolation.proofs.WidthLemmas.{full-below}
use Rattle.isolation.proofs.settling.settle.Goals as goal

pub returns-clause-full : goal.returns-clause-full
returns-clause-full c full =
    full-below c.args.net.now c.args.budget c.in_ok-d.d c.settle_on.new.d c.columns.result c.in_ok-d.ensures (omega (arith, c.columns.ensures.columns)) c.settle_on.ensures.limit (rw (c.looped.ensures.looped, c.in_ok-loops.ensures) at c.settle_on.ensures.adds) full
