use Rattle.std.proofs.Common.{◌≡◌, length, subst, arith}
use Rattle.verdict.proofs.Common.{get_or_default, ListsMarked, IsFirstToRefuse}
use Rattle.isolation.specs.Excerpts.{gate_in}
use Rattle.clause_decision.specs.Tests.{IsFirstUnknown}
use Rattle.verdict.proofs.CandidateLemmas.{listed-within, first-refuses}
use Rattle.verdict.proofs.undetermined.first_refusal.Goals as goal
use Rattle.verdict.proofs.undetermined.first_refusal.Goals.{After-deref-2, After-index}

-- the marked gates are listed
listed : (c : After-deref-2) → ListsMarked c.in_ok-marks.marks.items (length c.args.question.now.net.gates) c.deref-2.result.now
listed c = rw c.deref-2.ensures.value (rw (c.deref.ensures.value, c.in_ok-marks.ensures.width) at c.in_ok-gates.ensures)

pub first_of-requires : goal.first_of-requires
first_of-requires c = listed-within c.in_ok-marks.marks.items (length c.args.question.now.net.gates) c.deref-2.result.now (listed c)

-- the first that is unknown
first : (c : After-index) → IsFirstUnknown c.args.question.now.net c.args.question.now.care c.deref-2.result.now c.in-At.place
first c = rw c.in-At.is at c.in_ok-place.ensures

gate-is : (c : After-index) → gate_in c.deref-2.result.now c.in-At.place ≡ c.index.result.now
gate-is c = grind (arith, first c, get_or_default c.in_ok-gates.gates.items c.in-At.place 0 c.index.result.now)

pub refusal_of-requires-clause-within : goal.refusal_of-requires-clause-within
refusal_of-requires-clause-within g =
    let at = goal.at.refusal_of-requires-clause-within g in
    let c : After-index = at.After-index in
    grind (arith, After-index, first c, gate-is c, listed-within g.in_ok-marks.marks.items (length g.args.question.now.net.gates) g.deref-2.result.now (listed at.After-deref-2) g.in-At.place 0, listed at.After-deref-2)

pub refusal_of-requires-clause-first : goal.refusal_of-requires-clause-first
refusal_of-requires-clause-first g =
    let at = goal.at.refusal_of-requires-clause-first g in
    let c : After-index = at.After-index in
    let q = g.args.question.now in
    let is = g.laws.ensures.is in
    subst (IsFirstToRefuse q.net q.care q.what) (gate-is c)
    (first-refuses q.net is.net q.blocks is.blocks q.settled g.args.observed.now g.in_ok-marks.marks.items g.args.last is.settled g.in_ok-marks.ensures
    q.care q.what g.requires g.deref-2.result.now (listed at.After-deref-2) g.in-At.place (first c))
