use Rattle.std.proofs.Common.{take}
use Rattle.loop_simulation.proofs.Common.{gates_in, AreReaders}
use Rattle.loop_simulation.proofs.readers.readers_in.Given as goal

abbrev pub invariant-loop-gate : goal.invariant-loop-gate
invariant-loop-gate l = AreReaders l.block (take l.gate-index (gates_in l.block)) l.readers.items
