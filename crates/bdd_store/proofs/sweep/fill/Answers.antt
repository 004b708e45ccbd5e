use Rattle.std.proofs.Common.{◌≡◌, ◌∙◌, ap, add-one, arith, length, get_or, List, ℕ, replicate}
use Rattle.std.proofs.lemmas.List.{length-replicate}
use Rattle.bdd_store.proofs.Common.{slice_get-get_or}
use Rattle.bdd_store.proofs.ValueLemmas.{no_entry}
use Rattle.bdd_store.proofs.RenumberLemmas.{IsKeptNext, IsKeptNext-from, AreMoved-more, AreMoved-skip}
use Rattle.bdd_store.proofs.sweep.fill.Goals.{After-moved_entry-arg-1, then-marks-position+in_ok-places, else-marks-position}
use Rattle.bdd_store.proofs.sweep.fill.Goals as goal

long : (xs ys : List ℕ) (n : ℕ) → length xs ≡ length ys → ys ≡ replicate n 0 → length xs ≡ n
long xs ys n same is = same ∙ ap length is ∙ length-replicate {A = ℕ} n 0

next : (c : After-moved_entry-arg-1) → IsKeptNext c.args.entries.now c.loop-position.places c.loop-position.table.keys (get_or c.args.entries.now c.loop-position.position no_entry)
next c = IsKeptNext-from c.args.entries.now c.args.marks.now c.loop-position.places c.loop-position.table.keys c.loop-position.position no_entry c.requires.closed c.requires.sound c.loop-position.invariant.moved c.requires.room (long _ _ _ c.loop-position.auto.places c.requires.places) c.loop-position-test.true (rw (add-one c.loop-position.position) at c.if-marks-position.true)

pub moved_entry-entry-requires-clause-lo : goal.moved_entry-entry-requires-clause-lo
moved_entry-entry-requires-clause-lo c = (next c).lo

pub moved_entry-entry-requires-clause-hi : goal.moved_entry-entry-requires-clause-hi
moved_entry-entry-requires-clause-hi c = (next c).hi

pub append-requires-clause-room : goal.append-requires-clause-room
append-requires-clause-room c = (next (goal.at.append-requires-clause-room c).After-moved_entry-arg-1).room

pub append-requires-clause-absent : goal.append-requires-clause-absent
append-requires-clause-absent c = rw c.moved_entry-entry.ensures (next (goal.at.append-requires-clause-absent c).After-moved_entry-arg-1).absent

pub loop-position-preserved : goal.loop-position-preserved
loop-position-preserved c = elim c.if-marks-position.branch [
  | then-marks-position+in_ok-places w ↦
      let size = long _ _ _ c.loop-position.auto.places c.requires.places in
      record {
        moved = rw (w.places-is, ap (λ s. s.keys) w.table-is ∙ w.in_ok-places.ensures.keys, w.moved_entry-entry.ensures, w.in_ok-places.ensures.index, add-one c.loop-position.position)
            (AreMoved-more c.args.entries.now c.args.marks.now c.loop-position.places c.loop-position.table.keys c.loop-position.position c.requires.closed c.requires.sound c.loop-position.invariant.moved (get_or c.args.entries.now c.loop-position.position no_entry) (slice_get-get_or c.args.entries.now c.loop-position.position no_entry c.loop-position-test.true) (rw (add-one c.loop-position.position) at w.if-marks-position.true) (omega arith));
      }
  | else-marks-position w ↦ record {
    moved = rw (w.places-is, ap (λ s. s.keys) w.table-is, add-one c.loop-position.position)
        (AreMoved-skip c.args.entries.now c.args.marks.now c.loop-position.places c.loop-position.table.keys c.loop-position.position (rw (add-one c.loop-position.position) at w.if-marks-position.false) c.loop-position.invariant.moved);
  }
]
