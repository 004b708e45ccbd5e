-- What the search among rising numbers found, and that a place is at most its number.
use Rattle.std.proofs.Common.{arith}
use Rattle.std.proofs.lemmas.List.Sorted.{searched}
use Rattle.loops.proofs.OrderLemmas.{at_least_place, not_there, places_below}
use Rattle.loops.proofs.orders.place_of.Goals as goal

pub overflow_cast-result : goal.overflow_cast-result
overflow_cast-result c = grind (arith, at_least_place)

pub returns-in-Err-clause-none : goal.returns-in-Err-clause-none
returns-in-Err-clause-none c k =
    let gates = c.args.gates.now in
    let all = searched gates c.args.gate c.binary_search.result c.binary_search.ensures.position (places_below gates c.requires.rise) in
    let missed = rw c.in-Err.is at all in
    not_there gates c.args.gate c.in-Err.field-0 missed.1 missed.2 k
