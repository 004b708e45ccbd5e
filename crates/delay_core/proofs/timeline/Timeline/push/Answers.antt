use Rattle.std.proofs.Common.{arith}
use Rattle.delay_core.proofs.HistoryLemmas.{told-width, history-push}
use Rattle.delay_core.proofs.timeline.Timeline.push.Goals as goal

pub returns-clause-ok : goal.returns-clause-ok
returns-clause-ok c = grind (arith, history-push c.self.inside.entries.items c.write_moment.new.entries.items c.self.inside.newest.items c.write_moment.new.newest.items c.self.inside.moments c.args.values.now c.self.invariant.0)

pub write_moment-requires-clause-width : goal.write_moment-requires-clause-width
write_moment-requires-clause-width c = grind (arith, told-width c.self.inside.entries.items c.self.inside.newest.items c.self.inside.moments c.self.inside.spare c.args.self.now c.self.invariant.0 c.self.view_is)
