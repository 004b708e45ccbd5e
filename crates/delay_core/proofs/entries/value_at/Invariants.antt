use Rattle.std.proofs.Common.{◌≡◌, ◌<◌, length}
use Rattle.delay_core.proofs.Common.{value_from}
use Rattle.delay_core.proofs.entries.value_at.Given as goal

abbrev pub invariant-loop-i : goal.invariant-loop-i
invariant-loop-i l =
    record {
      within : l.i < length l.entries;
      same : value_from l.entries l.n l.head ≡ value_from l.entries l.n l.i;
    }

abbrev pub decreases-loop-i : goal.decreases-loop-i
decreases-loop-i l = l.i
