-- How a table of last rounds grows by a change.
use Rattle.std.proofs.Common.{◌<◌, ◌+◌, ℕ, List, length, take, get_or, arith}
use Rattle.std.proofs.lemmas.List.{take_more}
use Rattle.std.proofs.lemmas.List.Sums.{fold_push}
use Rattle.netlist.specs.declared.parts.Parts.{Parts}
use Rattle.delay_core.specs.declared.change.Change.{Change}
use Rattle.probes.specs.Tables.{IsRoundsTable, NotesRound}

pub rounds_more : (net : Parts) (changes : List Change) (i : ℕ) (d : Change) (ticks : ℕ) (old new : List ℕ) → i < length changes → NotesRound net (get_or changes i d) old new → IsRoundsTable net (take i changes) ticks old → IsRoundsTable net (take (i + 1) changes) ticks new
rounds_more net changes i d ticks old new short notes before = grind (arith, take_more changes i d short, fold_push)
