use Rattle.std.proofs.Common.{subst, sym}
use Rattle.isolation.specs.Alone.{SettleInOneSweep}
use Rattle.equal.proofs.whole.whole_scope.Goals as goal

pub known_gates-requires-clause-settled : goal.known_gates-requires-clause-settled
known_gates-requires-clause-settled c =
    let l = c.args.looped.now in
    subst (SettleInOneSweep l.net l.blocks) (sym c.deref.ensures.value) c.in_ok-settled.ensures.settled
