use Rattle.std.proofs.Common.{◌≡◌, map, take}
use Rattle.fixpoint.proofs.Common.{rails_under}
use Rattle.fixpoint.proofs.counting.steps_of.Given as goal

abbrev pub invariant-loop-step : goal.invariant-loop-step
invariant-loop-step l = l.list.items ≡ map (map (rails_under l.d)) (take l.step-index l.steps)
