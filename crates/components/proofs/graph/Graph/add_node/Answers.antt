use Rattle.std.proofs.Common.{arith}
use Rattle.components.proofs.PieceLemmas.{length-pieces, Adds, adds}
use Rattle.components.proofs.graph.Graph.add_node.Goals as goal

made : (c : goal.Else-is_err) → Adds c.self.inside.ends.items c.self.inside.targets.items c.push.new.self.items c.extend_from_slice.new.self.items c.args.successors.now
made c = grind (arith, adds c.self.inside.ends.items c.self.inside.targets.items c.push.new.self.items c.extend_from_slice.new.self.items c.args.successors.now c.self.invariant.0 c.in_ok-extend_from_slice.ensures.items)

pub invariant_of-self-else-is_err : goal.invariant_of-self-else-is_err
invariant_of-self-else-is_err c = grind (arith, length-pieces, made)

pub returns-clause-added : goal.returns-clause-added
returns-clause-added c = rw (← c.self.view_is) (made c).added
