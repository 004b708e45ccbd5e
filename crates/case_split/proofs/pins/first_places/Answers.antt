use Rattle.std.proofs.Common.{◌+◌, subst, sym}
use Rattle.case_split.specs.Pins.{AreFirstsUpTo}
use Rattle.case_split.proofs.PinLemmas.{firsts_next}
use Rattle.case_split.proofs.pins.first_places.Goals as goal

pub loop-place-preserved : goal.loop-place-preserved
loop-place-preserved c =
    subst (AreFirstsUpTo c.args.leaves.now (c.loop-place.place + 1)) (sym c.in_ok-push.ensures.items)
    (firsts_next c.args.leaves.now c.loop-place.place c.first_place.result c.loop-place.firsts.items c.loop-place.invariant c.first_place.ensures)
