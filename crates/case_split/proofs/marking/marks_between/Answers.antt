use Rattle.std.proofs.Common.{◌≡◌, ◌∙◌, length, ap, arith}
use Rattle.std.proofs.lemmas.List.{with_items_is}
use Rattle.case_split.proofs.marking.marks_between.Goals as goal

pub loop-place-preserved : goal.loop-place-preserved
loop-place-preserved c =
    let kept : length c.mark_between.new.marks ≡ length c.loop-place.marks.items = c.mark_between.auto.marks ∙ ap length c.deref_mut.ensures.value in
    let size : length c.mark_between.new.marks ≡ c.loop-place.marks.len = omega (arith, kept, c.loop-place.marks.ok.0) in
    ap length (with_items_is c.loop-place.marks c.mark_between.new.marks size) ∙ kept ∙ c.loop-place.invariant
