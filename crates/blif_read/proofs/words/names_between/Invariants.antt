use Rattle.std.proofs.Common.{◌≡◌}
use Rattle.blif_read.proofs.Common.{slice_range}
use Rattle.blif_read.proofs.words.names_between.Given as goal

abbrev pub invariant-loop-k : goal.invariant-loop-k
invariant-loop-k l = l.names.items ≡ slice_range l.line.words l.from l.k
