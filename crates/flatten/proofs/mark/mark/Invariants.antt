use Rattle.std.proofs.Common.{◌≡◌, take}
use Rattle.flatten.proofs.Common.{longest_run_of, wire_names}
use Rattle.flatten.proofs.mark.mark.Given as goal

abbrev pub invariant-loop-model : goal.invariant-loop-model
invariant-loop-model l = l.longest ≡ longest_run_of (wire_names (take l.model-index l.models))
