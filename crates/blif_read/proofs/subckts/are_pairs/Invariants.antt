use Rattle.std.proofs.Common.{◌≡◌, drop}
use Rattle.blif_read.proofs.Common.{list_all, is_pair}
use Rattle.blif_read.proofs.subckts.are_pairs.Given as goal

abbrev pub invariant-loop-k : goal.invariant-loop-k
invariant-loop-k l = list_all is_pair (drop 2 l.line.words) ≡ list_all is_pair (drop l.k l.line.words)
