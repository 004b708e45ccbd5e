use Rattle.blif_read.proofs.Common.{progress_of}
use Rattle.blif_read.proofs.PartLinesLemmas.{LeadsOn}
use Rattle.blif_read.proofs.parts.take_part.Given as goal

abbrev pub invariant-loop-i : goal.invariant-loop-i
invariant-loop-i l = LeadsOn l.part (progress_of l.fn.reader) (progress_of l.reader) l.i
