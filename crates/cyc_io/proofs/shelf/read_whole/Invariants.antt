use Rattle.std.proofs.Common.{◌≡◌, ◌≤◌, ◌-◌, ◌+◌}
use Rattle.std.specs.Prelude.{vec_len}
use Rattle.cyc_base.specs.declared.limits.TheConstants.{MAX_FILE_BYTES}
use Rattle.cyc_io.specs.declared.shelf.TheConstants.{PIECE}
use Rattle.cyc_io.specs.Faults.{ChangesCountOf}
use Rattle.cyc_io.specs.Files.{IsFront}
use Rattle.cyc_io.proofs.shelf.read_whole.Given as goal

abbrev pub invariant-loop-bytes : goal.invariant-loop-bytes
invariant-loop-bytes g l = (g.S.Shelf.files l.shelf ≡ g.S.Shelf.files l.fn.shelf)
    × ChangesCountOf l.fn.name (g.S.Shelf.faults l.fn.shelf) (g.S.Shelf.faults l.shelf)
    × IsFront (g.S.Shelf.files l.fn.shelf) l.fn.name l.bytes.items
    × (vec_len l.bytes ≤ MAX_FILE_BYTES + 1)
    × (vec_len l.piece ≡ PIECE)

abbrev pub decreases-loop-bytes : goal.decreases-loop-bytes
decreases-loop-bytes g l = MAX_FILE_BYTES + 1 - vec_len l.bytes
