use Rattle.std.proofs.Common.{◌<◌, arith, length, length-set, true}
use Rattle.bdd_store.proofs.Common.{index}
use Rattle.bdd_store.proofs.MarkLemmas.{RootsAreMarked-start, RootsAreMarked-first, RootsAreMarked-next}
use Rattle.bdd_store.proofs.sweep.mark_roots.Goals as goal

pub loop-root-init : goal.loop-root-init
loop-root-init c = grind (arith, RootsAreMarked-start c.args.roots.now c.into_iter-root-iterator.result c.args.marks.now)

within : (c : goal.After-index) → index c.in-Some.root.now < length c.loop-root.marks
within c = grind (arith, RootsAreMarked-first c.args.roots.now.slots c.loop-root.root-iterator c.next.new.self c.in-Some.field-0-0 c.in-Some.root.now c.args.marks.now c.loop-root.marks c.in-Some.ensures.steps c.loop-root.invariant.roots)

pub bounds-marks-index : goal.bounds-marks-index
bounds-marks-index c = omega (arith, within c, c.index.ensures)

pub loop-root-preserved : goal.loop-root-preserved
loop-root-preserved c =
    grind (arith, length-set c.loop-root.marks c.index.result true, RootsAreMarked-next c.args.roots.now.slots c.loop-root.root-iterator c.next.new.self c.in-Some.field-0-0 c.in-Some.root.now c.args.marks.now c.loop-root.marks c.in-Some.ensures.steps (within c) c.loop-root.invariant.roots, within c)
