use Rattle.std.proofs.Common.{◌≡◌, take}
use Rattle.flatten.proofs.Common.{longest_run_of, pair_names}
use Rattle.flatten.proofs.mark.longest_in_pairs.Given as goal

abbrev pub invariant-loop-formal : goal.invariant-loop-formal
invariant-loop-formal l = l.longest ≡ longest_run_of (pair_names (take l.formal-index l.pairs))
