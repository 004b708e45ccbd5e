use Rattle.std.proofs.Common.{arith}
use Rattle.netlist.proofs.GraphLemmas.{found_order, found_loop_free, found_loop}
use Rattle.netlist.proofs.netlist.Netlist.in_order.Goals as goal

pub returns-clause-order : goal.returns-clause-order
returns-clause-order c =
    found_order c.args.self.now (λ order. order.items) c.in_ok-topological_order.field-0 (rw c.in_ok-graph.ensures.graph at c.in_ok-topological_order.ensures.order)

pub returns-clause-loop_free : goal.returns-clause-loop_free
returns-clause-loop_free c =
    found_loop_free c.args.self.now c.in_ok-topological_order.field-0 (rw c.in_ok-graph.ensures.graph at c.in_ok-topological_order.ensures.acyclic)

pub returns-clause-none : goal.returns-clause-none
returns-clause-none c = grind (arith, found_loop c.args.self.now c.in_ok-topological_order.field-0)
