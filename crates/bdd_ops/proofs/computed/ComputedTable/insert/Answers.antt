use Rattle.std.proofs.Common.{rules}
use Rattle.bdd_ops.proofs.ComputedLemmas.{AreComputed-choice_put, AreComputed-other_put}
use Rattle.bdd_ops.proofs.computed.ComputedTable.insert.Goals as goal

pub returns-then-is_choice : goal.returns-then-is_choice
returns-then-is_choice c s are is = AreComputed-choice_put s c.self.inside.choices c.put.new.self c.self.inside.others c.args.computed c.put.ensures (c.if-is_choice.ensures.operation (search rules)) (c.if-is_choice.ensures.last (search rules)) is (rw (← c.self.view_is) at are)

pub returns-else-is_choice : goal.returns-else-is_choice
returns-else-is_choice c s are is = AreComputed-other_put s c.self.inside.choices c.self.inside.others c.put-else-is_choice.new.self c.args.computed c.put-else-is_choice.ensures is (rw (← c.self.view_is) at are)
