use Rattle.std.proofs.Common.{arith, sym, ◌∙◌}
use Rattle.refusals.proofs.ShowingLemmas.{one_may_not, one_may, none_left}
use Rattle.refusals.proofs.showing.is_initial.Goals as goal

pub returns-then-not-may_start : goal.returns-then-not-may_start
returns-then-not-may_start c = grind (arith, one_may_not)

pub loop-number-preserved : goal.loop-number-preserved
loop-number-preserved c = grind (arith, one_may)

pub returns : goal.returns
returns c = sym (none_left c.args.net.now.latches c.args.state.now c.loop-number.number (omega arith)) ∙ c.loop-number.invariant
