use Rattle.std.proofs.Common.{◌≡◌, ◌++◌, take}
use Rattle.ternary_run.specs.Reading.{reads_of_pins}
use Rattle.ternary_run.proofs.fanout.add_reads.Given as goal

abbrev pub invariant-loop-pin : goal.invariant-loop-pin
invariant-loop-pin l = l.reads.items ≡ l.initial.reads.items ++ reads_of_pins l.gate (take l.pin-index l.pins)
