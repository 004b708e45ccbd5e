use Rattle.std.proofs.Common.{◌≡◌, map, take}
use Rattle.std.specs.Vec.{vec_items}
use Rattle.case_split.specs.Heads.{leaves_of}
use Rattle.case_split.proofs.heads.leaves_of.Given as goal

abbrev pub invariant-loop-table : goal.invariant-loop-table
invariant-loop-table l = l.leaves.items ≡ leaves_of (map vec_items (take l.table-index l.tables)) l.signal
