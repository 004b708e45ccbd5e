use Rattle.std.proofs.Common.{length, arith}
use Rattle.explain_text.proofs.Common.{range_with_len, needed_column, appended_none, appended_item, appended_in_item, appended_items}
use Rattle.std.proofs.lemmas.List.FromFn.{length-range_with_len}
use Rattle.cyc_base.proofs.ListLemmas.{at_range}
use Rattle.explain_text.proofs.explanation.put_needed_columns.Goals as goal

pub loop-column-init : goal.loop-column-init
loop-column-init g c = appended_none _ _ _

pub loop-column-preserved : goal.loop-column-preserved
loop-column-preserved g c =
    appended_item (needed_column c.args.net.now c.args.needs.now) (range_with_len 0 (length c.args.needs.now)) c.loop-column.column c.loop-column.column _ _ _ _ _ _ _ _
    (omega (arith, length-range_with_len 0 (length c.args.needs.now))) (at_range (length c.args.needs.now) c.loop-column.column (omega arith)) c.loop-column.invariant c.in_ok-put_needed_column.ensures

pub returns-in_err-put_needed_column : goal.returns-in_err-put_needed_column
returns-in_err-put_needed_column g c =
    appended_in_item (needed_column c.args.net.now c.args.needs.now) (range_with_len 0 (length c.args.needs.now)) c.loop-column.column c.loop-column.column _ _ _ _ _ _ _ _ _
    (omega (arith, length-range_with_len 0 (length c.args.needs.now))) (at_range (length c.args.needs.now) c.loop-column.column (omega arith)) c.loop-column.invariant c.in_err-put_needed_column.ensures c.from_residual.ensures.0

pub returns : goal.returns
returns g c =
    appended_items (needed_column c.args.net.now c.args.needs.now) (range_with_len 0 (length c.args.needs.now)) c.loop-column.column _ _
    (omega (arith, length-range_with_len 0 (length c.args.needs.now))) c.loop-column.invariant
