-- How clauses see a plan: its netlist, the loops, and how many sweeps the loop of a gate needs.
use Rattle.std.specs.Prelude.{ℕ}
use Rattle.netlist.specs.declared.parts.Parts.{Parts}
use Rattle.loops.specs.Cuts.{Loops}
use Rattle.unroll.specs.Counted.{counted_loops, counted_sweeps}
use Rattle.unroll.specs.declared.plan.Plan.{Plan}

abbrev pub net_of : Plan → Parts
net_of plan = plan.counted.now.net

abbrev pub loops_in : Plan → Loops
loops_in plan = counted_loops plan.counted.now

abbrev pub sweeps_in : Plan → ℕ → ℕ
sweeps_in plan = counted_sweeps plan.counted.now
