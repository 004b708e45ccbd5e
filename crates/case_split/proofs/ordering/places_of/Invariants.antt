use Rattle.std.proofs.Common.{◌≡◌, length}
use Rattle.case_split.proofs.ordering.places_of.Given as goal

abbrev pub invariant-loop-place : goal.invariant-loop-place
invariant-loop-place l = length l.places.items ≡ length l.net.gates
