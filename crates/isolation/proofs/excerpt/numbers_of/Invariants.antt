use Rattle.std.proofs.Common.{take}
use Rattle.isolation.proofs.Common.{origins, AreNumbersOf}
use Rattle.isolation.proofs.excerpt.numbers_of.Given as goal

abbrev pub invariant-loop-pin : goal.invariant-loop-pin
invariant-loop-pin l = AreNumbersOf (origins l.net l.outside.keys l.gates) (take l.pin-index l.pins) l.numbers.items
