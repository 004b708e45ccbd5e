use Rattle.std.proofs.Common.{arith}
use Rattle.blif_write.proofs.Common.{line_text, row_line, appended_none, appended_item, appended_in_item, appended_items}
use Rattle.blif_write.proofs.gates.put_rows.Goals as goal

pub loop-row-init : goal.loop-row-init
loop-row-init g c = appended_none _ _ _

pub loop-row-preserved : goal.loop-row-preserved
loop-row-preserved g c = appended_item (λ row. line_text (row_line c.args.plane row)) c.args.rows.now c.loop-row.row-index c.row-item.result _ _ _ _ _ _ _ _ (omega arith) c.row-item.is c.loop-row.invariant c.in_ok-put_row.ensures

pub returns-in_err-put_row : goal.returns-in_err-put_row
returns-in_err-put_row g c = appended_in_item (λ row. line_text (row_line c.args.plane row)) c.args.rows.now c.loop-row.row-index c.row-item.result _ _ _ _ _ _ _ _ _ (omega arith) c.row-item.is c.loop-row.invariant c.in_err-put_row.ensures c.from_residual.ensures.0

pub returns : goal.returns
returns g c = appended_items (λ row. line_text (row_line c.args.plane row)) c.args.rows.now c.loop-row.row-index _ _ (omega arith) c.loop-row.invariant
