use Rattle.std.proofs.Common.{◌≡◌, ◌++◌, take}
use Rattle.aig_core.proofs.Common.{numbers_from}
use Rattle.aig_core.proofs.building.add_gate_numbers.Given as goal

abbrev pub invariant-loop-signal : goal.invariant-loop-signal
invariant-loop-signal l = l.numbers.items ≡ l.initial.numbers.items ++ numbers_from l.first (take l.signal-index l.signals)
