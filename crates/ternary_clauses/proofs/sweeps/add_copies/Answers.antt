use Rattle.std.proofs.Common.{arith}
use Rattle.ternary_clauses.proofs.SweepLemmas.{copies-none, copies-step}
use Rattle.ternary_clauses.proofs.sweeps.add_copies.Goals as goal

pub loop-init : goal.loop-init
loop-init c = rw c.new-copies.ensures.items (copies-none c.args.formula.now c.requires)

pub loop-preserved : goal.loop-preserved
loop-preserved c = rw c.in_ok-push.ensures.items (copies-step c.args.formula.now c.loop.formula c.new_wire.new.formula c.loop.copies.items c.loop.counter c.in_ok-wire.wire c.loop.invariant c.in_ok-wire.ensures.rails)

pub returns-clause-copies : goal.returns-clause-copies
returns-clause-copies c = grind arith
