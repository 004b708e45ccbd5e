use Rattle.simulation.proofs.Common.{AreKept}
use Rattle.simulation.proofs.LoadLemmas.{AreLoaded}
use Rattle.simulation.proofs.wires.Wires.load.Given as goal

abbrev pub invariant-loop-number : goal.invariant-loop-number
invariant-loop-number l = record {
  kept : AreKept l.net l.plan.blocks l.self.values.items l.self.due.items;
  loaded : AreLoaded l.first l.given l.number l.initial.self.values.items l.self.values.items;
}
