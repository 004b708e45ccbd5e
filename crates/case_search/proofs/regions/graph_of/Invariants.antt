use Rattle.std.proofs.Common.{◌≡◌, length}
use Rattle.case_search.proofs.regions.graph_of.Given as goal

abbrev pub invariant-loop-place : goal.invariant-loop-place
invariant-loop-place l = length l.graph ≡ l.place
