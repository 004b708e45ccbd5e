use Rattle.std.proofs.Common.{arith}
use Rattle.delay_core.proofs.ReadingLemmas.{starts-push}
use Rattle.delay_core.proofs.play.Play.add.Goals as goal

pub returns : goal.returns
returns c = grind (arith, starts-push c.self.inside.opening c.self.inside.marks.items c.self.inside.round c.self.inside.round)
