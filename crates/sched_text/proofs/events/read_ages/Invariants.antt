use Rattle.std.proofs.Common.{◌≡◌, ◌≤◌, ◌+◌, length}
use Rattle.sched_text.proofs.Common.{vec_len, vec_capacity}
use Rattle.sched_text.proofs.AgeLemmas.{AgesAt}
use Rattle.sched_text.proofs.events.read_ages.Given as goal

abbrev pub invariant-loop-k : goal.invariant-loop-k
invariant-loop-k l =
    record {
      ages : AgesAt l.line.words l.ages.items l.k;
      len : vec_len l.ages + 2 ≡ l.k;
      room : length l.line.words ≤ vec_capacity l.ages + 2;
    }
