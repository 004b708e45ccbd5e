use Rattle.std.proofs.Common.{ℕ, ◌<◌, [], arith}
use Rattle.explain_text.proofs.Common.{if◌then◌else◌, range_with_len, length-range_with_len, first_gate, is_marked, appended_equal, column_name}
use Rattle.cyc_base.proofs.ListLemmas.{at_range}
use Rattle.cyc_io.proofs.TakenLemmas.{appended_none}
use Rattle.cyc_io.proofs.ItemLemmas.{appended_item, appended_in_item, appended_items}
use Rattle.report.proofs.LoopTextLemmas.{kept_texts}
use Rattle.explain_text.proofs.lines.put_columns.Goals as goal

pub loop-column-init : goal.loop-column-init
loop-column-init g c = appended_none _ _ _

pub loop-column-preserved : goal.loop-column-preserved
loop-column-preserved g c =
    let n = first_gate c.args.net.now in
    let columns = c.columns-column-end.ensures.columns in
    let test = c.loop-column-test.true in
    let inside : c.loop-column.column < n = omega (arith, columns, test) in
    appended_item (λ (column : ℕ). if is_marked c.args.read.now column then column_name c.args.net.now column else []) (range_with_len 0 n) c.loop-column.column c.loop-column.column _ _ _ _ _ _ _ _
    (omega (arith, inside, length-range_with_len 0 n)) (at_range n c.loop-column.column inside) c.loop-column.invariant c.in_ok-put_column.ensures

pub returns-in_err-put_column : goal.returns-in_err-put_column
returns-in_err-put_column g c =
    let n = first_gate c.args.net.now in
    let columns = c.columns-column-end.ensures.columns in
    let test = c.loop-column-test.true in
    let inside : c.loop-column.column < n = omega (arith, columns, test) in
    appended_equal _ _ _ _ (kept_texts (is_marked c.args.read.now) (column_name c.args.net.now) (range_with_len 0 n))
    (appended_in_item (λ (column : ℕ). if is_marked c.args.read.now column then column_name c.args.net.now column else []) (range_with_len 0 n) c.loop-column.column c.loop-column.column _ _ _ _ _ _ _ _ _
    (omega (arith, inside, length-range_with_len 0 n)) (at_range n c.loop-column.column inside) c.loop-column.invariant c.in_err-put_column.ensures c.from_residual.ensures.0)

pub returns : goal.returns
returns g c =
    let n = first_gate c.args.net.now in
    let columns = c.columns-column-end.ensures.columns in
    let test = c.loop-column-test.false in
    appended_equal _ _ _ _ (kept_texts (is_marked c.args.read.now) (column_name c.args.net.now) (range_with_len 0 n))
    (appended_items (λ (column : ℕ). if is_marked c.args.read.now column then column_name c.args.net.now column else []) (range_with_len 0 n) c.loop-column.column _ _
    (omega (arith, columns, test, length-range_with_len 0 n)) c.loop-column.invariant)
