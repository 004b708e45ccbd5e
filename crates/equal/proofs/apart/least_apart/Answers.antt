use Rattle.std.proofs.Common.{◌≡◌, ◌∙◌, Err, length, ap, rules}
use Rattle.bdd_store.specs.declared.fault.StoreFault.{StoreFault}
use Rattle.equal.specs.Comparisons.{IsFullFor}
use Rattle.equal.proofs.EnoughLemmas.{out_of_nodes, below_enough}
use Rattle.equal.proofs.apart.least_apart.Goals as goal
use Rattle.equal.proofs.apart.least_apart.Goals.{In-Err-Full}

full : (c : In-Err-Full) → IsFullFor c.start.new.self c.compare_on.new.d c.args.comparison.now.order.now c.args.comparison.now.looped.now.net c.args.comparison.now.care.now c.args.comparison.now.pairs.now
full c = c.compare_on.ensures.full (c.in-Err-Full.is ∙ ap {A = StoreFault} Err c.in-Err-Full.field-0-is)

-- the diagrams were begun anew
same_limit : (c : In-Err-Full) → c.start.new.self.limit ≡ c.args.limit
same_limit c = search rules

pub returns-in-Err-Full-clause-cause : goal.returns-in-Err-Full-clause-cause
returns-in-Err-Full-clause-cause g is_full =
    let c : In-Err-Full = (goal.at.returns-in-Err-Full-clause-cause g).In-Err-Full in
    out_of_nodes (same_limit c) (full c)

pub returns-in-Err-Full-clause-below : goal.returns-in-Err-Full-clause-below
returns-in-Err-Full-clause-below g is_full =
    let c : In-Err-Full = (goal.at.returns-in-Err-Full-clause-below g).In-Err-Full in
    let none : length c.start.new.self.entries ≡ 0 = search rules in
    below_enough (same_limit c) none (full c)
