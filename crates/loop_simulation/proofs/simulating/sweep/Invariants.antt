use Rattle.std.proofs.Common.{◌≢◌, ℕ}
use Rattle.std.specs.List.{Contains}
use Rattle.loop_simulation.proofs.Common.{value_in, AreUnseen, IsSweeping}
use Rattle.loop_simulation.proofs.EventLemmas.{total, work_left}
use Rattle.loop_simulation.proofs.simulating.sweep.Given as goal

abbrev pub invariant-loop-gate : goal.invariant-loop-gate
invariant-loop-gate l = record {
  sweeping : IsSweeping l.simulation.block.now l.simulation.outside.now l.before l.after l.waiting.items;
  unseen : AreUnseen l.simulation.block.now l.before l.after l.changed.items;
  differs : (n : ℕ) → Contains l.changed.items n → value_in l.before n ≢ value_in l.after n;
}

abbrev pub decreases-loop-gate : goal.decreases-loop-gate
decreases-loop-gate l = work_left (total l.simulation.readers.now) l.after l.waiting.items
