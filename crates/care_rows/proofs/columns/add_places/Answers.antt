use Rattle.std.proofs.Common.{◌+◌, subst, sym, false}
use Rattle.care_rows.proofs.Common.{get_or_default}
use Rattle.care_rows.proofs.ColumnLemmas.{PlacedSoFar, placed-start, placed-more, placed-room}
use Rattle.care_rows.proofs.columns.add_places.Goals as goal

pub loop-mark-init : goal.loop-mark-init
loop-mark-init c = placed-start c.args.marks.now c.args.first c.args.places.now.items

pub place_after-next-requires : goal.place_after-next-requires
place_after-next-requires c = placed-room c.args.marks.now c.args.first c.loop-mark.mark-index c.loop-mark.next c.loop-mark-test.true c.loop-mark.invariant.next_is c.requires

pub loop-mark-preserved : goal.loop-mark-preserved
loop-mark-preserved c =
    subst (PlacedSoFar c.args.marks.now c.args.first c.args.places.now.items (c.loop-mark.mark-index + 1) c.place_after-next.result) (sym c.in_ok-push.ensures.items)
    (placed-more c.args.marks.now c.args.first c.args.places.now.items c.loop-mark.mark-index c.loop-mark.next c.loop-mark.places.items _ c.place_after-next.result
    (get_or_default c.args.marks.now c.loop-mark.mark-index false _ c.loop-mark-test.true) c.place_after-next.ensures c.loop-mark.invariant)
