use Rattle.bdd_ops.proofs.ComputedLemmas.{AreComputed-idle}
use Rattle.bdd_ops.proofs.computed.ComputedTable.new.Goals as goal

pub returns : goal.returns
returns c s = AreComputed-idle s c.in_ok-choices.choices c.in_ok-others.others c.idle_choice.result c.idle.result c.in_ok-choices.ensures c.in_ok-others.ensures (c.idle_choice.ensures s) (c.idle.ensures s)
