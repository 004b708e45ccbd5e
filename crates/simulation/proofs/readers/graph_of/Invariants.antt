use Rattle.std.proofs.Common.{◌≡◌, take}
use Rattle.simulation.proofs.readers.graph_of.Given as goal

abbrev pub invariant-loop-readers : goal.invariant-loop-readers
invariant-loop-readers l = l.graph ≡ take l.readers-index l.lists
