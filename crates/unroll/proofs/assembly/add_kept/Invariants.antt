use Rattle.std.proofs.Common.{◌≡◌, ◌++◌, map}
use Rattle.unroll.proofs.Common.{range_with_len, loops_in, net_of, sweeps_in, kept_gate}
use Rattle.unroll.proofs.assembly.add_kept.Given as goal

abbrev pub invariant-loop-gate : goal.invariant-loop-gate
invariant-loop-gate l =
    l.gates.items ≡ l.initial.gates.items ++ map (kept_gate (net_of l.plan) (loops_in l.plan) (sweeps_in l.plan)) (range_with_len 0 l.gate)
