use Rattle.std.proofs.Common.{◌≡◌, ◌<◌, List, Bool, ℕ, true, false, length, get_or, arith}
use Rattle.netlist.specs.Netlists.{is_marked}
use Rattle.care_rows.proofs.Common.{get_or-set_same}
use Rattle.care_rows.proofs.ColumnLemmas.{so_far-start, so_far-more, so_far-all, set-keeps}
use Rattle.care_rows.proofs.columns.mark_columns.Goals as goal

abbrev P : List Bool → ℕ → Type 0
P marks column = is_marked marks column ≡ true

pub loop-column-init : goal.loop-column-init
loop-column-init c = so_far-start P c.args.columns.now c.args.used.now

pub loop-column-preserved : goal.loop-column-preserved
loop-column-preserved c =
    let i = c.loop-column.column-index in
    let column : ℕ = get_or c.args.columns.now i 0 in
    let low = c.requires i 0 c.loop-column-test.true in
    let width = c.loop-column.invariant.keeps.width in
    let inside : column < length c.loop-column.used = omega (arith, low, width) in
    so_far-more P (λ old new column keeps is. keeps.keeps column is) c.args.columns.now c.args.used.now c.loop-column.used _ i 0 c.loop-column-test.true
    c.loop-column.invariant (set-keeps c.loop-column.used column) (get_or-set_same c.loop-column.used column true false inside)

pub returns : goal.returns
returns c = record {
  keeps = c.loop-column.invariant.keeps;
  marks = so_far-all P c.args.columns.now c.args.used.now c.loop-column.used c.loop-column.column-index (omega arith) c.loop-column.invariant;
}
