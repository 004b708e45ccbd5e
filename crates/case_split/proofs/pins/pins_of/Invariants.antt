use Rattle.std.proofs.Common.{take}
use Rattle.case_split.specs.Pins.{ArePinsAt}
use Rattle.case_split.proofs.pins.pins_of.Given as goal

abbrev pub invariant-loop-place : goal.invariant-loop-place
invariant-loop-place l = ArePinsAt l.cases l.firsts (take l.place-index l.place-items) l.pins.items
