use Rattle.std.proofs.Common.{◌+◌, length, false, ap, arith}
use Rattle.aig_core.proofs.Common.{Made, found, constant, with_row}
use Rattle.aig_core.specs.Covers.{rows_made}
use Rattle.aig_core.proofs.CoverLemmas.{rows_next, rows_fault, rows_all}
use Rattle.aig_core.proofs.AnswerLemmas.{handed, IsFault-grows}
use Rattle.aig_core.proofs.covers.rows_edge.Goals as goal

pub returns-in_err-edge-clause-made : goal.returns-in_err-edge-clause-made
returns-in_err-edge-clause-made c =
    let next = rows_next c.args.pins.now (found c.args.aig.now (constant false)) (found c.loop-row.aig c.loop-row.edge) c.args.rows.now c.loop-row.row-index c.row-item.result (omega arith) c.row-item.is c.loop-row.invariant.made in
    let grows = rows_fault c.args.aig.now c.args.pins.now c.args.rows.now (c.loop-row.row-index + 1) in
    handed c.from_residual.result c.in_err-edge.field-0.0 c.with_row.new.aig (rows_made c.args.aig.now c.args.pins.now c.args.rows.now) c.from_residual.ensures.1
    (IsFault-grows (with_row c.args.pins.now (found c.loop-row.aig c.loop-row.edge) c.row-item.result).graph (rows_made c.args.aig.now c.args.pins.now c.args.rows.now).graph c.in_err-edge.field-0.0
    (omega (arith, grows, ap (λ (m : Made). length m.graph.ands) next)) c.in_err-edge.ensures.made)

pub returns-clause-made : goal.returns-clause-made
returns-clause-made c = grind (arith, rows_all c.args.aig.now c.args.pins.now c.args.rows.now c.loop-row.row-index (found c.loop-row.aig c.loop-row.edge))
