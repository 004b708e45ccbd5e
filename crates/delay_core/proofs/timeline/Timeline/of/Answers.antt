use Rattle.std.proofs.Common.{refl, arith}
use Rattle.delay_core.proofs.HistoryLemmas.{size, first_is, first_history}
use Rattle.delay_core.proofs.timeline.Timeline.of.Goals as goal

pub invariant_of-result : goal.invariant_of-result
invariant_of-result c = grind (arith, first_is c.args.first.now, size c.args.first.now)

pub returns : goal.returns
returns c = rw (c.in_ok-entries.ensures, c.in_ok-newest.ensures, first_history c.args.first.now) refl
