use Rattle.std.proofs.Common.{◌≡◌, true, arith}
use Rattle.unit_tests.proofs.clause_parts.can_be.Goals as goal

pub is_possible-requires : goal.is_possible-requires
is_possible-requires c =
    let within : c.are_within.result ≡ true = grind (arith, c.if-not-are_within.false) in
    rw c.in_ok-query.ensures.query (c.are_within.ensures.0 within)
