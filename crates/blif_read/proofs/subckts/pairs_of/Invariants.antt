use Rattle.std.proofs.Common.{◌≡◌}
use Rattle.blif_read.proofs.Common.{slice_range, pair_of}
use Rattle.std.specs.Prelude.{map}
use Rattle.blif_read.proofs.subckts.pairs_of.Given as goal

abbrev pub invariant-loop-k : goal.invariant-loop-k
invariant-loop-k l = l.pairs.items ≡ map pair_of (slice_range l.line.words 2 l.k)
