use Rattle.std.proofs.Common.{◌≡◌, ◌-◌, ◌≤◌, true, length}
use Rattle.std.specs.Prelude.{slice_range}
use Rattle.std.specs.List.{list_all}
use Rattle.blif_text.specs.Parts.{is_word_byte}
use Rattle.blif_text.proofs.parts.word_end.Given as goal

abbrev pub invariant-loop-end : goal.invariant-loop-end
invariant-loop-end l = (l.i ≤ l.end) × (l.end ≤ length l.bytes) × (list_all is_word_byte (slice_range l.bytes l.i l.end) ≡ true)

abbrev pub decreases-loop-end : goal.decreases-loop-end
decreases-loop-end l = length l.bytes - l.end
