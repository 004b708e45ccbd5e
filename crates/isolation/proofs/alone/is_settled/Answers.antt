use Rattle.std.proofs.Common.{subst}
use Rattle.isolation.proofs.Common.{block_at, SettleInSweeps}
use Rattle.isolation.proofs.alone.is_settled.Goals as goal

pub returns-clause-settled : goal.returns-clause-settled
returns-clause-settled c one looped =
    let l = c.args.looped.now in
    subst (λ place. SettleInSweeps l.net (block_at l.blocks place).gates 1) c.block_number-block.ensures (c.in_ok-settled.ensures one)
