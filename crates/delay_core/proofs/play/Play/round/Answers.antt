use Rattle.std.proofs.Common.{sym}
use Rattle.delay_core.proofs.ReadingLemmas.{length-starts}
use Rattle.delay_core.proofs.play.Play.round.Goals as goal

pub returns : goal.returns
returns c = rw (← c.self.view_is) (sym (length-starts c.self.inside.opening c.self.inside.marks.items c.self.inside.round))
