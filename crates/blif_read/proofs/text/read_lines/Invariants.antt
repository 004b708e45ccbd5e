use Rattle.blif_read.proofs.Common.{progress_of}
use Rattle.blif_read.proofs.ReadLemmas.{ReadsAt}
use Rattle.blif_read.proofs.text.read_lines.Given as goal

abbrev pub invariant-loop-i : goal.invariant-loop-i
invariant-loop-i l = ReadsAt l.lines (progress_of l.reader) l.i
