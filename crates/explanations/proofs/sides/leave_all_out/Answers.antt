use Rattle.explanations.proofs.SideLemmas.{leaving_first, leaving_next}
use Rattle.netlist.specs.Netlists.{is_marked}
use Rattle.explanations.proofs.sides.leave_all_out.Goals as goal

pub loop-signal-init : goal.loop-signal-init
loop-signal-init c = leaving_first c.args.net.now (is_marked c.args.marks.now) c.args.cycle.now c.args.sides.now c.requires.holds

pub loop-signal-preserved : goal.loop-signal-preserved
loop-signal-preserved c =
    leaving_next c.args.net.now (is_marked c.args.marks.now) c.args.cycle.now c.loop-signal.signal c.args.sides.now c.loop-signal.sides c.leave_out.new.sides c.loop-signal.invariant c.in_ok-leave_out.ensures
