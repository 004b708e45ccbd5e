use Rattle.std.proofs.Common.{sym}
use Rattle.delay_core.proofs.HistoryLemmas.{length-history}
use Rattle.delay_core.proofs.timeline.Timeline.moments.Goals as goal

pub returns : goal.returns
returns c = rw (← c.self.view_is) (sym (length-history c.self.inside.entries.items c.self.inside.newest.items c.self.inside.moments))
