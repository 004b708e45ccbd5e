use Rattle.std.proofs.Common.{ℕ, ◌<◌, get_or}
use Rattle.netlist.specs.Netlists.{is_marked}
use Rattle.explanations.specs.Sides.{ReaderStays}
use Rattle.explanations.proofs.sides.readers_stay.Given as goal

abbrev pub invariant-loop-gate : goal.invariant-loop-gate
invariant-loop-gate l = (k : ℕ) → k < l.gate-index → ReaderStays l.net (is_marked l.marks) l.sides l.signal (get_or l.cycle k 0)
