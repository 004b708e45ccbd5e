use Rattle.loops.proofs.Common.{ArePlacesRead}
use Rattle.loops.proofs.orders.places_read.Given as goal

abbrev pub invariant-loop-pin : goal.invariant-loop-pin
invariant-loop-pin l = ArePlacesRead l.looped.net l.looped.blocks l.looped.cut l.gates l.gate l.pin-index l.places.items
