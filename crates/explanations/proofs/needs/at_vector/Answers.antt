use Rattle.std.proofs.Common.{arith}
use Rattle.cyc_base.specs.Values.{bits}
use Rattle.ternary_run.proofs.SettlingLemmas.{length-fix}
use Rattle.explanations.proofs.NeedLemmas.{vector_holding_at, width_of_bits}
use Rattle.explanations.proofs.needs.at_vector.Goals as goal

pub returns-clause-holding : goal.returns-clause-holding
returns-clause-holding c =
    let net = c.args.net.now in
    grind (arith, vector_holding_at net c.args.vector.now c.in_ok-known.known.items c.in_ok-given.given.items c.in_ok-marks.marks.items c.unknown_gates.ensures.valid c.requires.width c.in_ok-given.ensures)

pub unknown_gates-requires : goal.unknown_gates-requires
unknown_gates-requires c =
    let net = c.args.net.now in
    let v = c.args.vector.now in
    rw (c.deref-2.ensures.value, c.in_ok-known.ensures.known, c.deref.ensures.value, c.in_ok-given.ensures) (length-fix net (bits v) (width_of_bits net v c.requires.width))

pub values_determined_by-requires-clause-width : goal.values_determined_by-requires-clause-width
values_determined_by-requires-clause-width c = rw (c.deref.ensures.value, c.in_ok-given.ensures) (width_of_bits c.args.net.now c.args.vector.now c.requires.width)
