use Rattle.std.proofs.Common.{◌≡◌, false, true, replicate, set, length, ap, ◌∙◌, ◌+◌}
use Rattle.std.proofs.lemmas.List.{take_at}
use Rattle.bdd_store.proofs.CanonicalLemmas.{early}
use Rattle.bdd_store.proofs.MarkLemmas.{AreMarks-from}
use Rattle.bdd_store.proofs.sweep.reached.Goals as goal

pub mark_branches-requires-clause-earlier : goal.mark_branches-requires-clause-earlier
mark_branches-requires-clause-earlier c = early c.requires.sound.1

pub returns : goal.returns
returns c =
    let first : c.deref_mut.result.now ≡ set (replicate (length c.args.entries.now + 1) false) 0 true = c.deref_mut.ensures.value ∙ ap (λ xs. set xs 0 true) (c.in_ok-marks.ensures.items_if_clones_equal (λ y e. e)) in
    let second : c.deref_mut-2.result.now ≡ c.mark_roots.new.marks = c.deref_mut-2.ensures.value ∙ take_at c.mark_roots.new.marks _ c.in_ok-marks.marks.len (c.mark_roots.auto.marks ∙ c.deref_mut.ensures.len) in
    let long = c.mark_branches.auto.marks ∙ c.deref_mut-2.ensures.len in
    rw (take_at c.mark_branches.new.marks _ c.in_ok-marks.marks.len long)
    (AreMarks-from c.args.roots.now.slots c.args.entries.now c.deref_mut.result.now c.mark_roots.new.marks c.mark_branches.new.marks (long ∙ c.in_ok-marks.ensures.len) first c.mark_roots.ensures (rw second at c.mark_branches.ensures))
