use Rattle.std.proofs.Common.{List, Bool, All, subst, arith}
use Rattle.care_rows.specs.Models.{IsUsed}
use Rattle.care_rows.specs.declared.rows.Row.{Row}
use Rattle.care_rows.proofs.ColumnLemmas.{so_far-start, so_far-more, so_far-all, wires-kept}
use Rattle.care_rows.proofs.columns.mark_rows.Goals as goal

abbrev P : List Bool → Row → Type 0
P marks row = All (λ e. IsUsed marks e.wire) row.values

pub loop-row-init : goal.loop-row-init
loop-row-init c = so_far-start P c.args.rows.now c.args.used.now

pub loop-row-preserved : goal.loop-row-preserved
loop-row-preserved c =
    so_far-more P (λ old new row keeps is. wires-kept old new row keeps is) c.args.rows.now c.args.used.now c.loop-row.used c.mark_row.new.used c.loop-row.row-index c.row-item.result c.loop-row-test.true
    c.loop-row.invariant c.mark_row.ensures.keeps (subst (P c.mark_row.new.used) c.row-item.is c.mark_row.ensures.marks)

pub returns : goal.returns
returns c = record {
  keeps = c.loop-row.invariant.keeps;
  marks = so_far-all P c.args.rows.now c.args.used.now c.loop-row.used c.loop-row.row-index (omega arith) c.loop-row.invariant;
}
