use Rattle.std.proofs.Common.{true≢false, arith}
use Rattle.dual_rail.proofs.EndLemmas.{any-settled}
use Rattle.dual_rail.proofs.ExpansionLemmas.{remainder-settled, asks_within}
use Rattle.dual_rail.proofs.expand.decided.Goals as goal

pub returns-then-any_settled-clause-found : goal.returns-then-any_settled-clause-found
returns-then-any_settled-clause-found c rows ends = grind (arith, remainder-settled rows c.args.plane c.args.pin c.args.live.now, any-settled rows c.args.classes.now ends c.args.pin c.args.live.now)

pub returns-clause-none : goal.returns-clause-none
returns-clause-none c rows pins ends width = grind (arith, asks_within rows c.args.pin c.args.live.now pins width, true≢false, any-settled rows c.args.classes.now ends c.args.pin c.args.live.now)
