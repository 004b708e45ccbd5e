use Rattle.explanations.proofs.SideLemmas.{leaving_first}
use Rattle.netlist.specs.Netlists.{is_marked}
use Rattle.explanations.proofs.sides.leave_others_out.Goals as goal

pub loop-signal-init : goal.loop-signal-init
loop-signal-init c = leaving_first c.args.net.now (is_marked c.args.marks.now) c.args.cycle.now c.args.sides.now c.requires.holds
