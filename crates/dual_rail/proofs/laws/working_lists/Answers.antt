use Rattle.dual_rail.proofs.WidthLemmas.{nodes-bounded}
use Rattle.dual_rail.proofs.laws.working_lists.Goals as goal

pub returns : goal.returns
returns c a pins f g is = nodes-bounded a.vars g
