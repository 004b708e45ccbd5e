use Rattle.components.specs.Orders.{HasPlaces}
use Rattle.components.proofs.order.places.Given as goal

abbrev pub invariant-loop-place : goal.invariant-loop-place
invariant-loop-place l = HasPlaces l.numbers l.places.items l.count l.place
