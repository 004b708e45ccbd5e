use Rattle.std.proofs.Common.{◌≡◌, ◌++◌, map, drop}
use Rattle.plain_commands.specs.Simulation.{start_value, start_values}
use Rattle.plain_commands.proofs.sim_lines.start.Given as goal

-- the values so far, and then those of the latches that are left
abbrev pub invariant-loop-number : goal.invariant-loop-number
invariant-loop-number l = l.values.items ++ map (λ latch. start_value latch.init) (drop l.number l.net.latches) ≡ start_values l.net
