-- The longest run of `~` in a netlist's names.
use Rattle.std.proofs.Common.{◌≡◌, max, Some, arith}
use Rattle.unroll.proofs.Common.{longest_run, longest_run_of, Parts, signal_names, longest-append, Clock, longest_run_in}

-- with the clock's name
pub with_clock : (net : Parts) (clock : Clock) → Some clock ≡ net.clock → longest_run_in net ≡ max (longest_run_of (signal_names net)) (longest_run clock.name)
with_clock net clock e = grind (arith, longest-append)
