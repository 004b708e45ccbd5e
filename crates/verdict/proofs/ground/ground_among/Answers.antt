use Rattle.std.proofs.Common.{subst, sym}
use Rattle.verdict.proofs.Common.{SettleInOneSweep}
use Rattle.verdict.proofs.ground.ground_among.Goals as goal

pub ground_with-requires-clause-settled : goal.ground_with-requires-clause-settled
ground_with-requires-clause-settled c =
    let l = c.args.looped.now in
    subst (SettleInOneSweep l.net l.blocks) (sym (c.in_ok-to_vec.ensures.items_if_clones_equal (λ x y e. e))) c.requires.settled
