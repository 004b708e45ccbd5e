use Rattle.std.proofs.Common.{◌∙◌, arith}
use Rattle.equal.proofs.Common.{GrowsWithin, NoOtherCause, within_moved, within_then, within_more, within_answered, within_refused, by_variable, is_above}
use Rattle.equal.specs.Sets.{BoundsPair}
use Rattle.equal.proofs.PartingLemmas.{above-kept, bounds-kept, first-same}
use Rattle.equal.proofs.parting.least_of_pair.Goals as goal
use Rattle.equal.proofs.parting.least_of_pair.Goals.{After-least_above-2}

pub least_above-requires-2-clause-compared : goal.least_above-requires-2-clause-compared
least_above-requires-2-clause-compared c = grind arith

first : (c : After-least_above-2) → GrowsWithin c.least_above.result c.args.d.now c.least_above.new.d NoOtherCause (BoundsPair c.args.d.now c.args.compared.set c.args.compared.here c.args.compared.there) 2
first c = within_moved (λ w b. b.above) c.least_above.ensures.grows

both : (c : After-least_above-2) → GrowsWithin c.least_above-2.result c.args.d.now c.least_above-2.new.d NoOtherCause (BoundsPair c.args.d.now c.args.compared.set c.args.compared.here c.args.compared.there) 4
both c = within_then (first c) (within_moved (λ w b. bounds-kept c.least_above.ensures.grows.keeps c.args.compared.set c.requires.compared.set c.args.compared.there c.args.compared.here c.requires.compared.there c.requires.compared.here b.below) c.least_above-2.ensures.grows)

pub returns-in_err-above-clause-grows : goal.returns-in_err-above-clause-grows
returns-in_err-above-clause-grows c = within_more (omega arith) (within_refused c.in_err-above.was c.from_residual.ensures.1 (within_moved (λ w b. b.above) c.least_above.ensures.grows))

pub returns-in_err-below-clause-grows : goal.returns-in_err-below-clause-grows
returns-in_err-below-clause-grows c = within_refused c.in_err-below.was c.from_residual-in_err-below.ensures.1 (both (goal.at.returns-in_err-below-clause-grows c).After-least_above-2)

pub returns-clause-grows : goal.returns-clause-grows
returns-clause-grows c = within_answered (both (goal.at.returns-clause-grows c).After-least_above-2)

pub returns-clause-least : goal.returns-clause-least
returns-clause-least c =
    c.lesser.ensures c.args.d.now.vars (λ v. is_above c.args.d.now c.args.compared.set c.args.compared.here c.args.compared.there (by_variable c.args.order.now v)) (λ v. is_above c.args.d.now c.args.compared.set c.args.compared.there c.args.compared.here (by_variable c.args.order.now v))
    c.in_ok-above.ensures.least
    (c.in_ok-below.ensures.least
    ∙ first-same c.least_above.new.d.vars c.args.d.now.vars (λ v. is_above c.least_above.new.d c.args.compared.set c.args.compared.there c.args.compared.here (by_variable c.args.order.now v)) (λ v. is_above c.args.d.now c.args.compared.set c.args.compared.there c.args.compared.here (by_variable c.args.order.now v))
    c.least_above.ensures.grows.keeps.vars
    (λ v. above-kept c.least_above.ensures.grows.keeps c.args.compared.set c.requires.compared.set c.args.compared.there c.args.compared.here c.requires.compared.there c.requires.compared.here (by_variable c.args.order.now v)))
