use Rattle.case_split.specs.Pins.{AreFirstsUpTo}
use Rattle.case_split.proofs.pins.first_places.Given as goal

abbrev pub invariant-loop-place : goal.invariant-loop-place
invariant-loop-place l = AreFirstsUpTo l.leaves l.place l.firsts.items
