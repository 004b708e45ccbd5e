use Rattle.std.proofs.Common.{◌≡◌, ◌++◌, length}
use Rattle.explain_text.proofs.Common.{text_bytes, counted_sweeps, told_first, told_cluster}
use Rattle.explain_text.proofs.graph.tell_clusters.Given as goal

abbrev pub invariant-loop-listed : goal.invariant-loop-listed
invariant-loop-listed l =
    (goal.iterator-loop-listed).can_next l.listed-iterator
    × (text_bytes l.sink ≡ text_bytes l.fn.sink ++ told_first (told_cluster l.counted.net (counted_sweeps l.counted)) l.counted.net (length l.yielded))
