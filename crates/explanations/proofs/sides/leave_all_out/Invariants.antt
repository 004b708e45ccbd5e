use Rattle.explanations.specs.Sides.{IsLeavingOut}
use Rattle.netlist.specs.Netlists.{is_marked}
use Rattle.explanations.proofs.sides.leave_all_out.Given as goal

abbrev pub invariant-loop-signal : goal.invariant-loop-signal
invariant-loop-signal l = IsLeavingOut l.net (is_marked l.marks) l.cycle l.signal l.initial.sides l.sides
