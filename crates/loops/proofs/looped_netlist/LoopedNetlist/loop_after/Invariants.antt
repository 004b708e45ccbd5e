use Rattle.std.proofs.Common.{◌≡◌, ◌≤◌}
use Rattle.loops.specs.Numbered.{first_gates_from}
use Rattle.loops.proofs.looped_netlist.LoopedNetlist.loop_after.Given as goal

-- no loop begins between
abbrev pub invariant-loop-gate : goal.invariant-loop-gate
invariant-loop-gate l = record {
  same : first_gates_from l.self.net l.fn.from ≡ first_gates_from l.self.net l.gate;
  later : l.fn.from ≤ l.gate;
}
