use Rattle.std.proofs.Common.{take}
use Rattle.loop_simulation.proofs.Common.{gate_at, HasGainedReader}
use Rattle.loop_simulation.proofs.readers.add_reader.Given as goal

abbrev pub invariant-loop-pin : goal.invariant-loop-pin
invariant-loop-pin l = HasGainedReader l.block l.gate (take l.pin-index (gate_at l.block.net l.gate).pins) l.initial.readers l.readers
