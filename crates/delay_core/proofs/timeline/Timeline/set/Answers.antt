use Rattle.std.proofs.Common.{arith}
use Rattle.delay_core.proofs.HistoryLemmas.{history-set}
use Rattle.delay_core.proofs.timeline.Timeline.set.Goals as goal

pub returns-clause-history : goal.returns-clause-history
returns-clause-history c = grind (arith, history-set c.self.inside.entries.items c.write.new.entries.items c.self.inside.newest.items c.write.new.newest.items c.self.inside.moments c.args.s c.args.value c.self.invariant.0 c.write.ensures.written)
