use Rattle.std.proofs.Common.{◌≡◌}
use Rattle.unroll.proofs.Common.{loops_in, sweeps_in, most}
use Rattle.unroll.proofs.plan.Plan.most_copies.Given as goal

abbrev pub invariant-loop-gate : goal.invariant-loop-gate
invariant-loop-gate l = l.most ≡ most (loops_in l.self).same (sweeps_in l.self) l.gate
