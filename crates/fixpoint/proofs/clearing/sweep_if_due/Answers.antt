use Rattle.fixpoint.proofs.KeepingLemmas.{solved-swept}
use Rattle.fixpoint.proofs.clearing.sweep_if_due.Goals as goal

pub returns-clause-solved : goal.returns-clause-solved
returns-clause-solved c l b is =
    let new = c.sweep_store.new.progress in
    let swept = c.in_ok-sweep_store.ensures in
    rw swept.places (solved-swept l swept.roots c.args.given.now b c.args.progress.now.places.items is new.wires.before.items new.wires.rails.items swept.before swept.rails)
