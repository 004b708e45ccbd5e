use Rattle.std.proofs.Common.{◌+◌, ◌∙◌, subst, sym, ap}
use Rattle.verdict.proofs.Common.{ListsMarked}
use Rattle.loops.proofs.MarkLemmas.{listed-skip, listed-push}
use Rattle.verdict.proofs.scopes.marked_places.Goals as goal
use Rattle.verdict.proofs.scopes.marked_places.Goals.{then-marks-place+in_ok-push, else-marks-place}

pub loop-place-preserved : goal.loop-place-preserved
loop-place-preserved c = elim c.if-marks-place.branch [
  | then-marks-place+in_ok-push w ↦
      subst (ListsMarked c.args.marks.now (c.loop-place.place + 1)) (sym (ap (λ v. v.items) w.places-is ∙ w.in_ok-push.ensures.items))
      (listed-push c.args.marks.now c.loop-place.place c.loop-place.places.items w.if-marks-place.true c.loop-place.invariant)
  | else-marks-place w ↦
      subst (ListsMarked c.args.marks.now (c.loop-place.place + 1)) (sym (ap (λ v. v.items) w.places-is))
      (listed-skip c.args.marks.now c.loop-place.place c.loop-place.places.items w.if-marks-place.false c.loop-place.invariant)
]
