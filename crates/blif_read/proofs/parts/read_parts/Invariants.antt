use Rattle.std.proofs.Common.{◌-◌, length}
use Rattle.blif_read.proofs.Common.{progress_of}
use Rattle.blif_read.proofs.PartLinesLemmas.{PartsAt}
use Rattle.blif_read.proofs.parts.read_parts.Given as goal

abbrev pub invariant-loop-i : goal.invariant-loop-i
invariant-loop-i l = PartsAt l.bytes (progress_of l.reader) l.parts l.i

abbrev pub decreases-loop-i : goal.decreases-loop-i
decreases-loop-i l = length l.bytes - l.i
