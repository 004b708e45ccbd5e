use Rattle.unroll.proofs.Common.{loops_in, net_of, sweeps_in, AreMade}
use Rattle.unroll.proofs.copies.add_rounds.Given as goal

abbrev pub invariant-loop-number : goal.invariant-loop-number
invariant-loop-number l =
    AreMade (net_of l.plan) (loops_in l.plan) (sweeps_in l.plan) l.number l.active.items l.gates.items l.tables.earlier.items l.tables.current.items
