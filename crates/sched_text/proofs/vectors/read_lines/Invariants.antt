use Rattle.std.proofs.Common.{◌≡◌, ◌≤◌, length}
use Rattle.sched_text.proofs.Common.{vec_len, vec_capacity}
use Rattle.sched_text.proofs.VectorLemmas.{ReadsAt}
use Rattle.sched_text.proofs.vectors.read_lines.Given as goal

abbrev pub invariant-loop-i : goal.invariant-loop-i
invariant-loop-i l =
    record {
      reads : ReadsAt l.width l.unknowns l.lines l.vectors.items l.i;
      len : vec_len l.vectors ≡ l.i;
      room : length l.lines ≤ vec_capacity l.vectors;
    }
