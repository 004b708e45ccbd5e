-- What the search among rising numbers found.
use Rattle.std.proofs.lemmas.List.Sorted.{searched}
use Rattle.loops.proofs.OrderLemmas.{not_there, places_below}
use Rattle.ternary_clauses.proofs.sweeps.place_of.Goals as goal

pub returns-in-Err-clause-none : goal.returns-in-Err-clause-none
returns-in-Err-clause-none c k =
    let gates = c.args.gates.now in
    let all = searched gates c.args.gate c.binary_search.result c.binary_search.ensures.position (places_below gates c.requires) in
    let missed = rw c.in-Err.is at all in
    not_there gates c.args.gate c.in-Err.field-0 missed.1 missed.2 k
