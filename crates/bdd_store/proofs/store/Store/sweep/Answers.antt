use Rattle.std.proofs.Common.{◌≤◌, [], length, refl, arith}
use Rattle.bdd_store.proofs.Common.{Arena, AreMarks, AreMoved}
use Rattle.bdd_store.specs.contracts.store.Store.{the_view}
use Rattle.bdd_store.proofs.MakeLemmas.{with_entries}
use Rattle.bdd_store.proofs.SweepLemmas.{AreClosed-marks, root-placed, swept-few, swept-count, swept-within, swept-roots, swept-reached}
use Rattle.bdd_store.proofs.store.Store.sweep.Goals as goal

pub compact-requires-clause-closed : goal.compact-requires-clause-closed
compact-requires-clause-closed c = rw c.deref.ensures.value (AreClosed-marks c.self.inside.roots.slots c.as_slice-entries.result.now c.in_ok-marks.marks.items c.in_ok-marks.ensures)

pub renumber-requires : goal.renumber-requires
renumber-requires c =
    let old = the_view c.self.inside in
    grind (arith, root-placed old (with_entries old c.in_ok-table.table.keys) c.deref.result.now c.deref-2.result.now c.self.invariant.2 c.self.invariant.3)

module _ (c : goal.After-drop-marks-2) where
  abbrev before : Arena
  before = the_view c.self.inside

  abbrev after : Arena
  after = record { vars = c.self.inside.vars; limit = c.self.inside.limit; entries = c.in_ok-table.table.keys; roots = c.renumber.new.roots.slots; answers = [] }

  -- the slices that were lent are the lists themselves
  are : AreMarks c.self.inside.roots.slots c.self.inside.entries.keys c.deref.result.now
  are = rw (c.deref.ensures.value, ← c.as_slice-entries.ensures.keys) c.in_ok-marks.ensures

  moved : AreMoved c.self.inside.entries.keys c.deref.result.now c.deref-2.result.now c.in_ok-table.table.keys (length c.self.inside.entries.keys)
  moved = rw (c.deref-2.ensures.value, ← c.as_slice-entries.ensures.keys) c.in_ok-table.ensures.moved

  few : length c.in_ok-table.table.keys ≤ length c.self.inside.entries.keys
  few = swept-few before after c.deref.result.now c.deref-2.result.now c.self.invariant.2 c.self.invariant.3 are moved

pub invariant_of-self : goal.invariant_of-self
invariant_of-self c = grind (arith, few c, moved c, swept-within (before c) (after c) c.deref.result.now c.deref-2.result.now c.self.invariant.2 c.self.invariant.3 (are c) (moved c), are c)

pub returns-clause-roots : goal.returns-clause-roots
returns-clause-roots c = rw (← c.self.view_is) (swept-roots (before c) _ c.deref.result.now c.deref-2.result.now c.self.invariant.2 c.self.invariant.3 (are c) (moved c) refl refl c.renumber.ensures)

pub returns-clause-count : goal.returns-clause-count
returns-clause-count c = rw (← c.self.view_is) (swept-count (before c) (after c) c.deref.result.now c.deref-2.result.now c.self.invariant.2 c.self.invariant.3 (are c) (moved c))

pub returns-clause-reached : goal.returns-clause-reached
returns-clause-reached c = swept-reached (before c) (after c) c.deref.result.now c.deref-2.result.now c.self.invariant.2 c.self.invariant.3 (are c) (moved c) refl refl c.renumber.ensures

pub returns-clause-fewer : goal.returns-clause-fewer
returns-clause-fewer c = rw (← c.self.view_is) (few c)
