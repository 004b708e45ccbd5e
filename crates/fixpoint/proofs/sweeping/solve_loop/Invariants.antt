use Rattle.std.proofs.Common.{◌≡◌, ◌*◌, ◌-◌, length, take}
use Rattle.fixpoint.proofs.Common.{HasGrown, IsWide, loops_by, IsWorking, order_cost, vectors, first_gate, IsUnderway}
use Rattle.fixpoint.proofs.sweeping.solve_loop.Given as goal

abbrev pub invariant-loop-steps : goal.invariant-loop-steps
invariant-loop-steps l = record {
  grows : HasGrown l.fn.d l.d (IsWide l.fn.d.vars (IsWorking l.looped.net (loops_by l.looped.blocks l.looped.cut) (vectors l.looped.net l.fn.d l.fn.wires.rails.items))) (2 * (length l.steps.items * order_cost l.looped.net l.plan.order));
  given : take (first_gate l.looped.net) l.wires.rails.items ≡ take (first_gate l.looped.net) l.fn.wires.rails.items;
  underway : IsUnderway l.looped l.d (vectors l.looped.net l.fn.d l.fn.wires.rails.items) l.place l.plan.cuts l.steps.items l.wires.before.items l.wires.rails.items;
}

abbrev pub decreases-loop-steps : goal.decreases-loop-steps
decreases-loop-steps l = length l.plan.cuts - length l.steps.items
