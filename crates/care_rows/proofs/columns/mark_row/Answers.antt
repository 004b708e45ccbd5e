use Rattle.std.proofs.Common.{List, Bool, All, subst, arith}
use Rattle.care_rows.specs.Models.{IsUsed}
use Rattle.care_rows.specs.declared.rows.WireValue.{WireValue}
use Rattle.care_rows.proofs.ColumnLemmas.{so_far-start, so_far-more, so_far-all, used-kept}
use Rattle.care_rows.proofs.columns.mark_row.Goals as goal

abbrev P : List Bool → WireValue → Type 0
P marks e = IsUsed marks e.wire

pub loop-asked-init : goal.loop-asked-init
loop-asked-init c = so_far-start P c.items-asked-items.result.now c.args.used.now

pub loop-asked-preserved : goal.loop-asked-preserved
loop-asked-preserved c =
    so_far-more P (λ old new e keeps is. used-kept old new e.wire keeps is) c.items-asked-items.result.now c.args.used.now c.loop-asked.used c.mark_signal.new.used c.loop-asked.asked-index _ c.loop-asked-test.true
    c.loop-asked.invariant c.mark_signal.ensures.keeps c.mark_signal.ensures.marks

pub returns : goal.returns
returns c = record {
  keeps = c.loop-asked.invariant.keeps;
  marks = subst (λ (xs : List WireValue). All (P c.loop-asked.used) xs) c.items-asked-items.ensures
      (so_far-all P c.items-asked-items.result.now c.args.used.now c.loop-asked.used c.loop-asked.asked-index (omega arith) c.loop-asked.invariant);
}
