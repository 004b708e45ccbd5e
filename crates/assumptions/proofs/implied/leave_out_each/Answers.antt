use Rattle.assumptions.proofs.ImpliedLemmas.{each_next}
use Rattle.assumptions.proofs.implied.leave_out_each.Goals as goal

pub loop-place-preserved : goal.loop-place-preserved
loop-place-preserved c =
    each_next c.args.looped.now.net c.args.values.now.items c.loop-place.values.items c.leave_out.new.values.items c.in_ok-leave_out.field-0 c.loop-place.invariant c.in_ok-leave_out.ensures
