use Rattle.std.proofs.Common.{◌<◌, All, length}
use Rattle.case_split.proofs.left.nodes_of.Given as goal

abbrev pub invariant-loop-node : goal.invariant-loop-node
invariant-loop-node l = All (λ node. node < length l.graph) l.nodes.items
