use Rattle.bdd_ops.proofs.ComputedLemmas.{AreComputed-idle}
use Rattle.bdd_ops.proofs.computed.ComputedTable.clear.Goals as goal

pub returns : goal.returns
returns c s = AreComputed-idle s c.clear.new.self c.clear-2.new.self c.idle_choice.result c.idle.result c.clear.ensures c.clear-2.ensures (c.idle_choice.ensures s) (c.idle.ensures s)
