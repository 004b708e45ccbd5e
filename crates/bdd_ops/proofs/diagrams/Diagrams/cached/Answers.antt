use Rattle.bdd_ops.proofs.ChoiceLemmas.{right_node, right_function}
use Rattle.bdd_ops.proofs.diagrams.Diagrams.cached.Goals as goal

pub returns-clause-node : goal.returns-clause-node
returns-clause-node c = rw (← c.self.view_is) (right_node c.self.inside.store (record { a = c.args.a; b = c.args.b; c = c.args.c }) c.answer.result c.self.invariant.1 c.answer.ensures)

pub returns-clause-function : goal.returns-clause-function
returns-clause-function c = rw (← c.self.view_is) (right_function c.self.inside.store (record { a = c.args.a; b = c.args.b; c = c.args.c }) c.answer.result c.self.invariant.1 c.answer.ensures)
