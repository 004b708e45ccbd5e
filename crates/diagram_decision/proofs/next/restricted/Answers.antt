use Rattle.std.proofs.Common.{arith}
use Rattle.diagram_decision.proofs.Common.{GrowsWithin, HasGrown, NoOtherCause, within_one, within_then, within_more, within_answered, within_refused, conjunction, BoundsBoth}
use Rattle.diagram_decision.proofs.NextLemmas.{conjunction-kept}
use Rattle.diagram_decision.proofs.next.restricted.Goals as goal
use Rattle.diagram_decision.proofs.next.restricted.Goals.{After-and-2}

-- the second operation is on the functions of before the first
both : (c : After-and-2) → GrowsWithin c.and-2.result c.args.d.now c.and-2.new.self NoOtherCause (BoundsBoth c.args.d.now.vars (conjunction c.args.d.now c.args.set c.args.rails.one) (conjunction c.args.d.now c.args.set c.args.rails.zero)) 2
both c =
    let kept = conjunction-kept c.args.d.now c.and.new.self c.args.set c.args.rails.zero c.and.ensures.grows.keeps c.requires.set c.requires.rails.zero in
    let first : HasGrown c.args.d.now c.and.new.self (BoundsBoth c.args.d.now.vars (conjunction c.args.d.now c.args.set c.args.rails.one) (conjunction c.args.d.now c.args.set c.args.rails.zero)) 1 =
    within_answered (within_one (λ w b. b.first) c.and.ensures.grows) in
    within_then first (within_one (λ w b. omega (arith, b.second, kept)) c.and-2.ensures.grows)

pub returns-in_err-one-clause-grows : goal.returns-in_err-one-clause-grows
returns-in_err-one-clause-grows c = within_more (omega arith) (within_refused c.in_err-one.was c.from_residual.ensures.1 (within_one (λ w b. b.first) c.and.ensures.grows))

pub returns-in_err-zero-clause-grows : goal.returns-in_err-zero-clause-grows
returns-in_err-zero-clause-grows c = within_refused c.in_err-zero.was c.from_residual-in_err-zero.ensures.1 (both (goal.at.returns-in_err-zero-clause-grows c).After-and-2)

pub returns-clause-grows : goal.returns-clause-grows
returns-clause-grows c = within_answered (both (goal.at.returns-clause-grows c).After-and-2)
