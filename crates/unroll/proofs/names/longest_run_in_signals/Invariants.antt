use Rattle.std.proofs.Common.{◌≡◌, take}
use Rattle.unroll.proofs.Common.{longest_run_of, signal_names}
use Rattle.unroll.proofs.names.longest_run_in_signals.Given as goal

abbrev pub invariant-loop-number : goal.invariant-loop-number
invariant-loop-number l = l.longest ≡ longest_run_of (take l.number (signal_names l.net))
