use Rattle.std.proofs.Common.{◌≡◌, take}
use Rattle.flatten.proofs.Common.{longest_run_of}
use Rattle.flatten.proofs.mark.longest_in.Given as goal

abbrev pub invariant-loop-name : goal.invariant-loop-name
invariant-loop-name l = l.longest ≡ longest_run_of (take l.name-index l.names)
