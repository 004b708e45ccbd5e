use Rattle.std.proofs.Common.{◌*◌, ◌≡◌, ◌≤◌, ℕ, length, filter, take}
use Rattle.fixpoint.proofs.Common.{KeepsNodes, HasGrown, IsWide, block_at, is_cut, loops_by, Vectors, IsWorking, order_cost, AreWires, IsSweepable, first_gate, after_sweeps}
use Rattle.fixpoint.proofs.SweepLemmas.{IsSweeping}
use Rattle.fixpoint.proofs.wires.Wires.sweep.Given as goal

abbrev pub invariant-loop-gate : goal.invariant-loop-gate
invariant-loop-gate l = record {
  keeps : KeepsNodes l.fn.d l.d;
  grows : (b k : ℕ) (v : Vectors) → IsSweepable l.looped l.fn.d v (after_sweeps l.looped v k) b l.order l.initial.self.before.items l.initial.self.rails.items → k ≤ length (filter (is_cut l.looped.cut.wires) (block_at l.looped.blocks b).gates)
      → HasGrown l.fn.d l.d (IsWide l.fn.d.vars (IsWorking l.looped.net (loops_by l.looped.blocks l.looped.cut) v)) (2 * order_cost l.looped.net (take l.gate-index l.order));
  before : l.self.before.items ≡ l.initial.self.before.items;
  wires : AreWires l.looped.net l.d l.self.before.items l.self.rails.items;
  given : take (first_gate l.looped.net) l.self.rails.items ≡ take (first_gate l.looped.net) l.initial.self.rails.items;
  swept : IsSweeping l.looped l.order l.initial.d l.initial.self.before.items l.initial.self.rails.items l.d l.self.rails.items l.gate-index;
}
