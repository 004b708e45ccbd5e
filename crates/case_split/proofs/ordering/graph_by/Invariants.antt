use Rattle.std.proofs.Common.{◌≡◌, length}
use Rattle.case_split.proofs.ordering.graph_by.Given as goal

abbrev pub invariant-loop-gate : goal.invariant-loop-gate
invariant-loop-gate l = length l.graph ≡ l.gate-index
