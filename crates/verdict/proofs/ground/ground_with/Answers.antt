use Rattle.std.proofs.Common.{subst, sym}
use Rattle.verdict.proofs.Common.{SettleInOneSweep}
use Rattle.verdict.proofs.ground.ground_with.Goals as goal

pub known_gates-requires-clause-settled : goal.known_gates-requires-clause-settled
known_gates-requires-clause-settled c =
    let l = c.args.looped.now in
    subst (SettleInOneSweep l.net l.blocks) (sym c.deref.ensures.value) c.requires.settled
