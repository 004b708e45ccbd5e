use Rattle.std.proofs.Common.{◌<◌, ◌≤◌, ◌+◌}
use Rattle.simulation.specs.Simulators.{IsSimulatorOf}
use Rattle.explanations.specs.Explained.{IsNeeding, IsSettled}
use Rattle.explanations.proofs.NeedLemmas.{tries_left}
use Rattle.explanations.proofs.needs.hold.Given as goal

abbrev pub invariant-loop-run : goal.invariant-loop-run
invariant-loop-run l = record {
  simulator : IsSimulatorOf l.net l.simulator;
  known : IsSettled l.net l.holding;
  needing : IsNeeding l.net l.vector l.gates l.kept l.run.first l.holding.given.items l.holding.marks.items;
  within : l.run.first + l.run.count ≤ l.columns;
  some : l.run.first < l.columns → 0 < l.run.count;
}

abbrev pub decreases-loop-run : goal.decreases-loop-run
decreases-loop-run l = tries_left l.columns l.run
