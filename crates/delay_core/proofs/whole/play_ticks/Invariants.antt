use Rattle.simulation.specs.Simulators.{IsSimulatorOf}
use Rattle.delay_core.proofs.WholeLemmas.{TicksArePlayed}
use Rattle.delay_core.proofs.whole.play_ticks.Given as goal

abbrev pub invariant-loop-tick : goal.invariant-loop-tick
invariant-loop-tick l =
    record {
      played : TicksArePlayed l.run l.fn.log l.play.state l.ends.items l.log l.tick;
      simulator : IsSimulatorOf l.run.net l.simulator;
    }
