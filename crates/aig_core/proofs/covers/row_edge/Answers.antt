use Rattle.std.proofs.Common.{◌≡◌, ◌+◌, fold, length, take, true, ap, arith}
use Rattle.aig_core.proofs.Common.{zip, length_push, Made, found, constant, row_made}
use Rattle.std.proofs.lemmas.Slice.Zip.{zip_turn, zip_end}
use Rattle.aig_core.specs.Covers.{with_pin}
use Rattle.aig_core.proofs.CoverLemmas.{with_pair, row_next, row_fault, row_all, Extends-trans}
use Rattle.aig_core.proofs.AnswerLemmas.{handed, IsFault-grows}
use Rattle.aig_core.proofs.covers.row_edge.Goals as goal
use Rattle.aig_core.proofs.covers.row_edge.Goals.{In-Some}

next_is : (c : In-Some) → with_pin (found c.loop-pin.aig c.loop-pin.edge) c.in-Some.pin.now c.in-Some.lit.now ≡ fold with_pair (found c.args.aig.now (constant true)) (take (length c.loop-pin.yielded + 1) (zip c.args.pins.now c.args.lits.now))
next_is c =
    let t = zip_turn c.args.pins.now c.args.lits.now c.loop-pin.yielded c.into_iter-pin-iterator.result c.loop-pin.pin-iterator c.next.new.self c.next.result (cc) (cc) c.loop-pin.yielded_by (c.in-Some.pin, c.in-Some.lit) c.in-Some.is c.next.ensures.steps in
    row_next (found c.args.aig.now (constant true)) (found c.loop-pin.aig c.loop-pin.edge) c.args.pins.now c.args.lits.now (length c.loop-pin.yielded) c.in-Some.pin.now c.in-Some.lit.now t.0 t.1 t.2 t.3 c.loop-pin.invariant.made

pub returns-in_err-edge-clause-made : goal.returns-in_err-edge-clause-made
returns-in_err-edge-clause-made c =
    let next = next_is ((goal.at.returns-in_err-edge-clause-made c).In-Some) in
    let grows = row_fault c.args.aig.now c.args.pins.now c.args.lits.now (length c.loop-pin.yielded + 1) in
    handed c.from_residual.result c.in_err-edge.field-0.0 c.with_pin.new.aig (row_made c.args.aig.now c.args.pins.now c.args.lits.now) c.from_residual.ensures.1
    (IsFault-grows (with_pin (found c.loop-pin.aig c.loop-pin.edge) c.in-Some.pin.now c.in-Some.lit.now).graph (row_made c.args.aig.now c.args.pins.now c.args.lits.now).graph c.in_err-edge.field-0.0
    (omega (arith, grows, ap (λ (m : Made). length m.graph.ands) next)) c.in_err-edge.ensures.made)

pub loop-pin-preserved : goal.loop-pin-preserved
loop-pin-preserved c = grind (arith, next_is ((goal.at.loop-pin-preserved c).In-Some), length_push c.loop-pin.yielded (c.in-Some.pin, c.in-Some.lit), Extends-trans c.loop-pin.invariant.extends c.in_ok-edge.ensures.extends)

pub returns-clause-made : goal.returns-clause-made
returns-clause-made c =
    grind (arith, zip_end c.args.pins.now c.args.lits.now c.loop-pin.yielded c.into_iter-pin-iterator.result c.loop-pin.pin-iterator c.next.new.self c.next.result, row_all c.args.aig.now c.args.pins.now c.args.lits.now (length c.loop-pin.yielded) (found c.loop-pin.aig c.loop-pin.edge))
