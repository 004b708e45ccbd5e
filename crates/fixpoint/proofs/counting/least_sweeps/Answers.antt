use Rattle.std.proofs.Common.{◌≡◌, ◌∙◌, ap, subst, List, map, arith}
use Rattle.fixpoint.proofs.Common.{length-map, IsLawful, within_moved, within_more, Rails, rails_under, steps_under}
use Rattle.fixpoint.proofs.CountLemmas.{loop-nodes, loop-widths}
use Rattle.fixpoint.proofs.counting.least_sweeps.Goals as goal
use Rattle.fixpoint.proofs.counting.least_sweeps.Goals.{After-deref}

-- the steps under their roots
steps-are : (c : After-deref) → c.deref.result.now ≡ steps_under c.args.d.now c.args.found.now
steps-are c = c.deref.ensures.value ∙ c.in_ok-steps.ensures ∙ ap (map (map (rails_under c.args.d.now))) c.items.ensures

pub least_step-requires-clause-nodes : goal.least_step-requires-clause-nodes
least_step-requires-clause-nodes c =
    rw (steps-are (goal.at.least_step-requires-clause-nodes c).After-deref) (loop-nodes c.args.d.now (subst IsLawful c.store.ensures c.laws.ensures) c.args.found.now c.requires.countable.keys)

pub least_step-requires-clause-widths : goal.least_step-requires-clause-widths
least_step-requires-clause-widths c = rw (steps-are (goal.at.least_step-requires-clause-widths c).After-deref, c.items-2.ensures) (loop-widths c.args.d.now c.args.found.now c.requires.countable.widths)

pub least_step-requires-clause-fits : goal.least_step-requires-clause-fits
least_step-requires-clause-fits c k least = c.requires.countable.fits k (rw (steps-are (goal.at.least_step-requires-clause-fits c).After-deref) at least)

pub returns-clause-least : goal.returns-clause-least
returns-clause-least c = rw (steps-are (goal.at.returns-clause-least c).After-deref) at c.least_step.ensures.least

pub returns-clause-grows : goal.returns-clause-grows
returns-clause-grows c = grind (arith, steps-are (goal.at.returns-clause-grows c).After-deref, length-map {B = List Rails} c.args.found.now.steps (map (rails_under c.args.d.now)), within_more, within_moved)
