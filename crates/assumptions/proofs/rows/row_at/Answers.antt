use Rattle.assumptions.proofs.RowLemmas.{found_opens, found_has_vector, found_sides_fit, found_needs_fit, both_fit, none_is_absurd}
use Rattle.std.proofs.lemmas.Result.{IfOk-weaker}
use Rattle.assumptions.proofs.rows.row_at.Goals as goal

pub unreachable-requires : goal.unreachable-requires
unreachable-requires c = none_is_absurd c.args.net.now c.args.vector.now c.args.wire c.in_ok-found.found c.in-None.is c.in_ok-found.ensures.none c.requires.at.gate c.requires.unknown

pub row_by-requires-clause-sides : goal.row_by-requires-clause-sides
row_by-requires-clause-sides c = found_sides_fit c.args.net.now c.args.vector.now c.args.wire c.in_ok-found.found c.in-Some.why c.in_ok-found.ensures.found c.in-Some.is c.laws.ensures.valid

pub row_by-requires-clause-needs : goal.row_by-requires-clause-needs
row_by-requires-clause-needs c =
    found_needs_fit c.args.net.now c.args.vector.now c.args.wire c.in_ok-found.found c.in-Some.why c.in_ok-found.ensures.found c.in-Some.is c.laws.ensures.valid c.requires.at.width

pub row_by-requires-clause-both : goal.row_by-requires-clause-both
row_by-requires-clause-both c =
    both_fit c.in-Some.why.needs c.in-Some.why.also
    (found_needs_fit c.args.net.now c.args.vector.now c.args.wire c.in_ok-found.found c.in-Some.why c.in_ok-found.ensures.found c.in-Some.is c.laws.ensures.valid c.requires.at.width)

pub returns-clause-opens : goal.returns-clause-opens
returns-clause-opens c =
    IfOk-weaker c.row_by.result _ _
    (λ row by.
    found_opens c.args.net.now c.args.vector.now c.args.wire c.in_ok-found.found c.in-Some.why c.in_ok-found.ensures.found c.in-Some.is c.args.observe c.args.steady.now row
    c.requires.steady c.requires.at.width c.requires.at.gate c.requires.observed by)
    c.row_by.ensures

pub returns-clause-inside : goal.returns-clause-inside
returns-clause-inside c =
    IfOk-weaker c.row_by.result _ _
    (λ row by.
    found_has_vector c.args.net.now c.args.vector.now c.args.wire c.in_ok-found.found c.in-Some.why c.in_ok-found.ensures.found c.in-Some.is c.args.observe c.args.steady.now row
    c.requires.steady c.requires.at.width by)
    c.row_by.ensures
