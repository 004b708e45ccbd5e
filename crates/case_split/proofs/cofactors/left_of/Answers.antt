use Rattle.std.proofs.Common.{◌∙◌, ap, arith}
use Rattle.case_split.specs.Cofactors.{wires_of}
use Rattle.case_split.proofs.CofactorLemmas.{all_answer, left_answer, rest_fits}
use Rattle.case_split.proofs.cofactors.left_of.Goals as goal

pub returns-then-is_empty : goal.returns-then-is_empty
returns-then-is_empty c =
    all_answer c.args.cover.now c.args.operands.now c.args.live.now c.in_ok-left.left.items c.in_ok-wires.wires.items
    c.plane-plane.ensures.proper c.requires.counted c.requires.live c.in_ok-left.ensures (c.in_ok-wires.ensures ∙ ap wires_of c.deref.ensures.value)
    c.plane-plane.result c.plane-plane.ensures.plane c.requires.some (grind (arith, c.is_empty.ensures, c.if-is_empty.true))

pub cover_by-rest-requires : goal.cover_by-rest-requires
cover_by-rest-requires c =
    rest_fits c.args.cover.now c.args.operands.now c.args.live.now c.in_ok-left.left.items c.in_ok-wires.wires.items
    c.plane-plane.ensures.proper c.requires.counted c.requires.live c.in_ok-left.ensures (c.in_ok-wires.ensures ∙ ap wires_of c.deref.ensures.value)
    c.in_ok-rows.rows.items c.len.result (grind (arith, c.in_ok-rows.ensures, c.deref-2.ensures.value)) (grind (arith, c.len.ensures))

pub returns : goal.returns
returns c =
    c.fold.ensures c.args.cover.now c.args.operands.now
    (left_answer c.args.cover.now c.args.operands.now c.args.live.now c.in_ok-left.left.items c.in_ok-wires.wires.items
    c.plane-plane.ensures.proper c.requires.counted c.requires.live c.in_ok-left.ensures (c.in_ok-wires.ensures ∙ ap wires_of c.deref.ensures.value)
    c.plane-plane.result c.in_ok-rows.rows.items c.len.result c.cover_by-rest.result
    c.plane-plane.ensures.plane c.requires.some (grind (arith, c.in_ok-rows.ensures, c.deref-2.ensures.value)) (grind (arith, c.len.ensures)) c.cover_by-rest.ensures)
