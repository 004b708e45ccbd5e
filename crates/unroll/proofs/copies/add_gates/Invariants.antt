use Rattle.std.proofs.Common.{◌≡◌, ◌++◌, map, take}
use Rattle.unroll.proofs.Common.{loops_in, net_of, copy_gate_by}
use Rattle.unroll.proofs.copies.add_gates.Given as goal

abbrev pub invariant-loop-gate : goal.invariant-loop-gate
invariant-loop-gate l =
    l.gates.items
    ≡ l.initial.gates.items
    ++ map (copy_gate_by (net_of l.plan) (loops_in l.plan) l.plan.mark l.plan.by l.tables.earlier.items l.tables.current.items l.number) (take l.gate-index l.active)
