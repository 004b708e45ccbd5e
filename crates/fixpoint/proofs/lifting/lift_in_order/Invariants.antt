use Rattle.std.proofs.Common.{◌*◌, take}
use Rattle.fixpoint.proofs.Common.{KeepsNodes, HasGrown, BoundsEach, AreLifted, Vectors, no_loops, IsGatePart, order_cost}
use Rattle.fixpoint.specs.Lifting.{AreSignalRails}
use Rattle.fixpoint.proofs.lifting.lift_in_order.Given as goal

abbrev pub invariant-loop-gate : goal.invariant-loop-gate
invariant-loop-gate l = record {
  keeps : KeepsNodes l.fn.d l.d;
  wires : AreSignalRails l.net l.d l.rails;
  lifted : (v : Vectors) → AreLifted l.net l.order l.fn.d v 0 l.fn.rails → AreLifted l.net l.order l.d v l.gate-index l.rails;
  grows : (v : Vectors) → AreLifted l.net l.order l.fn.d v 0 l.fn.rails → HasGrown l.fn.d l.d (BoundsEach l.fn.d.vars (IsGatePart l.net no_loops v)) (2 * order_cost l.net (take l.gate-index l.order));
}
