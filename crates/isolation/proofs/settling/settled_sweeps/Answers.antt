use Rattle.std.proofs.Common.{ℕ, List, map, sym, subst, arith}
use Rattle.isolation.proofs.Common.{All, GrowsWithin, NoOtherCause, IsLawful, within_moved, within_more, within_refused, within_answered, AreRailsOf, IsWide, rails_under, order, AreKnown, IsSolvedNetlist, IsLaid}
use Rattle.bdd_store.proofs.GrowthLemmas.{within_then}
use Rattle.fixpoint.specs.declared.kept.KeptRails.{KeptRails}
use Rattle.fixpoint.specs.Kept.{AreKept}
use Rattle.fixpoint.proofs.KeptLemmas.{RootsStay-kept}
use Rattle.isolation.specs.Settling.{counting_cost}
use Rattle.isolation.proofs.SettlingLemmas.{determined-is, solved-stays}
use Rattle.isolation.proofs.UnknownLemmas.{unknown-gate}
use Rattle.isolation.proofs.WidthLemmas.{asked-grows}
use Rattle.isolation.proofs.settling.settled_sweeps.Goals as goal
use Rattle.isolation.proofs.settling.settled_sweeps.Goals.{After-most_sweeps}

pub is_determined-requires-clause-keys : goal.is_determined-requires-clause-keys
is_determined-requires-clause-keys c = subst (All (AreKept c.args.d.now)) (sym c.items.ensures) c.requires.solution.keys

pub is_determined-requires-clause-proper : goal.is_determined-requires-clause-proper
is_determined-requires-clause-proper c = subst (λ (kept : List KeptRails). All (AreRailsOf c.args.d.now) (map (rails_under c.args.d.now) kept)) (sym c.items.ensures) c.requires.solution.rails

pub most_sweeps-requires : goal.most_sweeps-requires
most_sweeps-requires c = solved-stays c.solutions.ensures.stay (RootsStay-kept (subst IsLawful c.store.ensures c.laws.ensures) c.is_determined.ensures.grows.keeps) c.requires

-- asking for the signals leaves it solved
abbrev asked : (c : After-most_sweeps) → IsSolvedNetlist c.args.d.now c.args.blocks.now c.args.solved.now → IsSolvedNetlist c.is_determined.new.d c.args.blocks.now c.args.solved.now
asked c is = solved-stays c.solutions.ensures.stay (RootsStay-kept (subst IsLawful c.store.ensures c.laws.ensures) c.is_determined.ensures.grows.keeps) is

pub returns-then-not-branch-clause-unknown : goal.returns-then-not-branch-clause-unknown
returns-then-not-branch-clause-unknown c is = grind (arith, unknown-gate is.net is.points is.points_are c.args.d.now (map (rails_under c.args.d.now) c.args.solved.now.rails) is.solution.rails is.solution.vector is.solution.values is.vars)

pub returns-clause-settled : goal.returns-clause-settled
returns-clause-settled c is =
    let known : AreKnown c.args.d.now (map (rails_under c.args.d.now) c.args.solved.now.rails) =
    subst (λ (kept : List KeptRails). AreKnown c.args.d.now (map (rails_under c.args.d.now) kept)) c.items.ensures (c.in_ok-is_determined.ensures.known c.if-not-branch.false) in
    record {
      determined = determined-is is.net c.args.blocks.now is.cut is.blocks_are is.cut_is is.points (order is.net) is.points_are c.args.d.now c.args.solved.now is.solution known;
      sweeps = c.in_ok-most.ensures.sweeps (asked (goal.at.returns-clause-settled c).After-most_sweeps is);
    }

-- the signals that are known, and then the sweeps
counted : (c : After-most_sweeps) (is : IsSolvedNetlist c.args.d.now c.args.blocks.now c.args.solved.now) → GrowsWithin c.most_sweeps.result c.args.d.now c.most_sweeps.new.d NoOtherCause (IsWide c.args.d.now.vars (IsLaid is.net)) (counting_cost is.net)
counted c is =
    within_then (asked-grows is c.items.result.now c.items.ensures c.is_determined.ensures.grows)
    (within_moved (λ w wide. subst (λ (n : ℕ). IsWide n (IsLaid is.net) w) (sym c.is_determined.ensures.grows.keeps.vars) wide)
    (c.most_sweeps.ensures.grows (asked c is)))

pub returns-in_err-is_determined-clause-grows : goal.returns-in_err-is_determined-clause-grows
returns-in_err-is_determined-clause-grows c is = within_more (omega arith) (within_refused c.in_err-is_determined.was c.from_residual.ensures.1 (asked-grows is c.items.result.now c.items.ensures c.is_determined.ensures.grows))

pub returns-then-not-branch-clause-grows : goal.returns-then-not-branch-clause-grows
returns-then-not-branch-clause-grows c is = within_more (omega arith) (within_answered (asked-grows is c.items.result.now c.items.ensures c.is_determined.ensures.grows))

pub returns-in_err-most-clause-grows : goal.returns-in_err-most-clause-grows
returns-in_err-most-clause-grows c is = within_refused c.in_err-most.was c.from_residual-in_err-most.ensures.1 (counted ((goal.at.returns-in_err-most-clause-grows c).After-most_sweeps) is)

pub returns-clause-grows : goal.returns-clause-grows
returns-clause-grows c is = within_answered (counted ((goal.at.returns-clause-grows c).After-most_sweeps) is)
