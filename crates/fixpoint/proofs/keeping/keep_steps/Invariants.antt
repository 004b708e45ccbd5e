use Rattle.std.proofs.Common.{◌≡◌, map, take}
use Rattle.fixpoint.proofs.Common.{All, rails_under, AreKept, GainsRoots}
use Rattle.fixpoint.proofs.keeping.keep_steps.Given as goal

abbrev pub invariant-loop-step : goal.invariant-loop-step
invariant-loop-step l = record {
  gains : GainsRoots l.fn.d l.d;
  keys : All (All (AreKept l.d)) l.list.items;
  steps : map (map (rails_under l.d)) l.list.items ≡ take l.step-index l.steps;
}
