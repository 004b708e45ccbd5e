use Rattle.std.proofs.Common.{◌∙◌, List, ap, arith}
use Rattle.equal.proofs.Common.{find, within_moved, by_variable, vectors, Rails, some_differ}
use Rattle.std.proofs.lemmas.Result.{IfOk-weaker}
use Rattle.equal.proofs.ApartLemmas.{least-is, pairs-bounded}
use Rattle.equal.proofs.apart.compare_solved.Goals as goal

pub least_of_pairs-requires-clause-pairs : goal.least_of_pairs-requires-clause-pairs
least_of_pairs-requires-clause-pairs c = grind arith

pub returns-clause-found : goal.returns-clause-found
returns-clause-found c =
    IfOk-weaker c.least_of_pairs.result _ _
    (λ found is.
    is
    ∙ ap (λ (rails : List Rails). find (λ v. some_differ c.args.d.now c.args.found.now.set rails c.args.comparison.now.pairs.now (by_variable c.args.comparison.now.order.now v)) (vectors c.args.d.now.vars)) c.items.ensures
    ∙ least-is c.args.comparison.now.order.now c.args.comparison.now.looped.now.net c.args.comparison.now.care.now c.args.d.now c.requires.vars c.args.found.now.set c.args.found.now.rails c.requires.set c.requires.fixed c.args.comparison.now.pairs.now c.args.comparison.now.paired)
    c.least_of_pairs.ensures.least

pub returns-clause-grows : goal.returns-clause-grows
returns-clause-grows c =
    within_moved
    (λ w wide.
    rw c.items.ensures
    (pairs-bounded c.args.comparison.now.order.now c.args.comparison.now.looped.now.net c.args.comparison.now.care.now c.args.d.now c.requires.vars c.args.found.now.set c.args.found.now.rails c.requires.set c.requires.fixed c.args.comparison.now.pairs.now c.args.comparison.now.paired c.args.comparison.now.laid w wide))
    c.least_of_pairs.ensures.grows
