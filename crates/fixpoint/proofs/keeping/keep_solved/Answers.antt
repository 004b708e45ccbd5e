use Rattle.std.proofs.Common.{◌≡◌, ◌++◌, ◌∙◌, length, drop, take, ap}
use Rattle.std.proofs.lemmas.List.{take_at}
use Rattle.fixpoint.proofs.keeping.keep_solved.Goals as goal
use Rattle.fixpoint.proofs.keeping.keep_solved.Goals.{After-keep_gates}

-- the places are written back as they were left
back : (c : After-keep_gates) → take c.args.progress.now.places.len (c.keep_gates.new.places ++ drop (length c.keep_gates.new.places) c.args.progress.now.places.items) ≡ c.keep_gates.new.places
back c = take_at c.keep_gates.new.places (drop (length c.keep_gates.new.places) c.args.progress.now.places.items) c.args.progress.now.places.len (c.keep_gates.auto.places ∙ c.deref_mut.ensures.len)

pub returns-clause-kept : goal.returns-clause-kept
returns-clause-kept c = rw (back ((goal.at.returns-clause-kept c).After-keep_gates)) (rw c.deref.ensures.value at c.keep_gates.ensures.kept)

pub returns-clause-others : goal.returns-clause-others
returns-clause-others c = rw (back ((goal.at.returns-clause-others c).After-keep_gates)) (rw c.deref_mut.ensures.value at c.keep_gates.ensures.others)

pub returns-clause-width : goal.returns-clause-width
returns-clause-width c = ap length (back ((goal.at.returns-clause-width c).After-keep_gates)) ∙ c.keep_gates.auto.places ∙ ap length c.deref_mut.ensures.value
