use Rattle.dual_rail.proofs.ClassLemmas.{AreClasses-numbered}
use Rattle.dual_rail.proofs.classes.classes_before.Goals as goal

pub returns : goal.returns
returns c = AreClasses-numbered c.in_ok-fill.ensures.numbered c.in_ok-fill.ensures.all c.requires.width c.requires.rests
