use Rattle.std.proofs.Common.{◌-◌, ◌≤◌, arith, length-set, get_or}
use Rattle.bdd_store.proofs.Common.{slice_get-get_or, index}
use Rattle.bdd_store.proofs.ValueLemmas.{no_entry}
use Rattle.bdd_store.proofs.MarkLemmas.{WaysAreMarked-start, WaysAreMarked-read}
use Rattle.bdd_store.proofs.sweep.mark_branches.Goals.{After-index}
use Rattle.bdd_store.proofs.sweep.mark_branches.Goals as goal

pub loop-position-init : goal.loop-position-init
loop-position-init c = record { ways = WaysAreMarked-start c.args.entries.now c.args.marks.now _ (omega arith) }

-- the branches of the entry stand before it
earlier : (c : After-index) → (index (get_or c.args.entries.now (c.loop-position.position - 1) no_entry).lo ≤ c.loop-position.position - 1) × (index (get_or c.args.entries.now (c.loop-position.position - 1) no_entry).hi ≤ c.loop-position.position - 1)
earlier c = c.requires.earlier (c.loop-position.position - 1) (get_or c.args.entries.now (c.loop-position.position - 1) no_entry) (slice_get-get_or c.args.entries.now (c.loop-position.position - 1) no_entry (omega arith))

pub bounds-marks-index : goal.bounds-marks-index
bounds-marks-index c = let e = (earlier c).0 in omega (arith, e, c.index.ensures)

pub bounds-marks-index-then-marks-position : goal.bounds-marks-index-then-marks-position
bounds-marks-index-then-marks-position c = grind (arith, earlier, length-set)

pub loop-position-preserved-then-marks-position : goal.loop-position-preserved-then-marks-position
loop-position-preserved-then-marks-position c = grind (arith, WaysAreMarked-read c.args.entries.now c.args.marks.now c.loop-position.marks c.loop-position.position c.index.result c.index-then-marks-position.result no_entry c.requires.earlier)
