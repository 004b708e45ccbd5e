use Rattle.std.proofs.Common.{◌≡◌, ◌∙◌, length, arith}
use Rattle.std.proofs.lemmas.List.{take_at}
use Rattle.bdd_store.proofs.sweep.compact.Goals as goal
use Rattle.bdd_store.proofs.sweep.compact.Goals.{After-fill}

pub fill-requires-clause-sound : goal.fill-requires-clause-sound
fill-requires-clause-sound c = c.requires.sound

pub fill-requires-clause-marks : goal.fill-requires-clause-marks
fill-requires-clause-marks c = c.requires.marks

pub fill-requires-clause-places : goal.fill-requires-clause-places
fill-requires-clause-places c = c.deref_mut.ensures.value ∙ c.in_ok-places.ensures.items_if_clones_equal (λ y e. e)

-- the places are given back as they are, and there are as many
long : (c : After-fill) → length c.fill.new.places ≡ c.in_ok-places.places.len
long c = c.fill.auto.places ∙ c.deref_mut.ensures.len

pub returns-clause-moved : goal.returns-clause-moved
returns-clause-moved c = rw (take_at c.fill.new.places _ c.in_ok-places.places.len (long (goal.at.returns-clause-moved c).After-fill)) c.in_ok-fill.ensures

pub returns-clause-places : goal.returns-clause-places
returns-clause-places c = grind (arith, long, take_at)
