use Rattle.std.proofs.Common.{◌≡◌, ◌&&◌, Bool, List, refl, ap₂, arith}
use Rattle.equal.proofs.Common.{GrowsWithin, NoOtherCause, within_then, within_more, within_answered, within_refused, conjunction, is_above, BoundsAbove}
use Rattle.bdd_store.proofs.GrowthLemmas.{within_one, within_memory}
use Rattle.equal.proofs.PartingLemmas.{bounded-same}
use Rattle.equal.proofs.parting.least_above.Goals as goal
use Rattle.equal.proofs.parting.least_above.Goals.{After-and-2}

-- the second conjunction is that of three functions
inside : (c : After-and-2) → (v : List Bool) → conjunction c.and.new.self c.args.compared.set c.in_ok-both.both v ≡ is_above c.args.d.now c.args.compared.set c.args.compared.here c.args.compared.there v
inside c v = ap₂ (λ x y. x && y) (c.and.ensures.grows.keeps.function c.args.compared.set v c.requires.compared.set) (c.in_ok-both.ensures.function v)

grown : (c : After-and-2) → GrowsWithin c.and-2.result c.args.d.now c.and-2.new.self NoOtherCause (BoundsAbove c.args.d.now c.args.compared.set c.args.compared.here c.args.compared.there) 2
grown c =
    within_then (within_one (λ w b. b.first) c.and.ensures.grows) (within_one (λ w b.
    bounded-same c.and.new.self.vars c.args.d.now.vars (conjunction c.and.new.self c.args.compared.set c.in_ok-both.both) (is_above c.args.d.now c.args.compared.set c.args.compared.here c.args.compared.there)
    c.and.ensures.grows.keeps.vars (inside c) b.second) c.and-2.ensures.grows)

pub returns-in_err-both-clause-grows : goal.returns-in_err-both-clause-grows
returns-in_err-both-clause-grows c = within_more (omega arith) (within_refused c.in_err-both.was c.from_residual.ensures.1 (within_one (λ w b. b.first) c.and.ensures.grows))

pub returns-in_err-node-clause-grows : goal.returns-in_err-node-clause-grows
returns-in_err-node-clause-grows c = within_refused c.in_err-node.was c.from_residual-in_err-node.ensures.1 (grown (goal.at.returns-in_err-node-clause-grows c).After-and-2)

pub returns-in_err-least_of-clause-grows : goal.returns-in_err-least_of-clause-grows
returns-in_err-least_of-clause-grows c = within_refused {U = Unit} refl c.from_residual-in_err-least_of.ensures.1 (within_memory (grown (goal.at.returns-in_err-least_of-clause-grows c).After-and-2))

pub returns-clause-grows : goal.returns-clause-grows
returns-clause-grows c = within_answered (grown (goal.at.returns-clause-grows c).After-and-2)

pub returns-clause-least : goal.returns-clause-least
returns-clause-least g = grind arith
