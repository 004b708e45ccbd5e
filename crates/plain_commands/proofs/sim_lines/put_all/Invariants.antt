use Rattle.std.proofs.Common.{◌≡◌, ◌+◌, ◌++◌, length, drop}
use Rattle.cyc_io.specs.Text.{text_bytes}
use Rattle.plain_commands.specs.Simulation.{tick_lines}
use Rattle.simulation.specs.Simulators.{IsSimulatorOf}
use Rattle.plain_commands.proofs.sim_lines.put_all.Given as goal

-- what is told so far, and then the lines of the vectors that are left
abbrev pub invariant-loop-i : goal.invariant-loop-i
invariant-loop-i l = record {
  simulator : IsSimulatorOf l.net l.simulator;
  width : length l.latches.items ≡ length l.net.latches;
  told : text_bytes l.sink ++ tick_lines l.net (l.i + 1) l.latches.items (drop l.i l.vectors) ≡ text_bytes l.fn.sink ++ tick_lines l.net 1 l.fn.latches.items l.vectors;
}
