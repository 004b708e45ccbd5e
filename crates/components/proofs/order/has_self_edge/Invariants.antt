use Rattle.std.proofs.Common.{ℕ, ◌<◌}
use Rattle.components.specs.Graphs.{Edge}
use Rattle.components.proofs.order.has_self_edge.Given as goal

abbrev pub invariant-loop-node : goal.invariant-loop-node
invariant-loop-node l = (a : ℕ) → a < l.node-counter → ¬ Edge l.graph a a
