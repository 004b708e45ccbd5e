use Rattle.simulation.specs.Simulators.{IsSimulatorOf}
use Rattle.unit_tests.proofs.simulators.always_tick_alike.Given as goal

abbrev pub invariant-loop-place : goal.invariant-loop-place
invariant-loop-place l = IsSimulatorOf l.net l.simulator
