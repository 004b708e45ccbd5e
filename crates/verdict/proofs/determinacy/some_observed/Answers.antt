use Rattle.std.proofs.Common.{◌≡◌, length, subst, arith}
use Rattle.verdict.proofs.Common.{get_or_default, ListsMarked}
use Rattle.isolation.specs.Excerpts.{gate_in}
use Rattle.clause_decision.specs.Witnesses.{IsWitness}
use Rattle.verdict.specs.Determinacy.{IsUnknownObserved}
use Rattle.verdict.proofs.CandidateLemmas.{listed-within}
use Rattle.verdict.proofs.WitnessLemmas.{asked-unknown}
use Rattle.verdict.proofs.determinacy.some_observed.Goals as goal
use Rattle.verdict.proofs.determinacy.some_observed.Goals.{After-deref-2, After-index}

-- the marked gates are listed
listed : (c : After-deref-2) → ListsMarked c.in_ok-marks.marks.items (length c.args.question.now.net.gates) c.deref-2.result.now
listed c = rw c.deref-2.ensures.value (rw (c.deref.ensures.value, c.in_ok-marks.ensures.width) at c.in_ok-gates.ensures)

pub some_of-requires : goal.some_of-requires
some_of-requires c = listed-within c.in_ok-marks.marks.items (length c.args.question.now.net.gates) c.deref-2.result.now (listed c)

witness : (c : After-index) → IsWitness c.args.question.now.net c.args.question.now.care c.deref-2.result.now c.in-Found.vector.items c.in-Found.place
witness c = rw c.in-Found.is at c.in_ok-found.ensures

gate-is : (c : After-index) → gate_in c.deref-2.result.now c.in-Found.place ≡ c.index.result.now
gate-is c = grind (arith, witness c, get_or_default c.in_ok-gates.gates.items c.in-Found.place 0 c.index.result.now)

pub returns-in-Found : goal.returns-in-Found
returns-in-Found g =
    let at = goal.at.returns-in-Found g in
    let c : After-index = at.After-index in
    let q = g.args.question.now in
    let gates = g.deref-2.result.now in
    let told = asked-unknown q g.args.observed.now g.in_ok-marks.marks.items _ g.in_ok-marks.ensures gates (listed at.After-deref-2) g.requires g.in-Found.vector.items g.in-Found.place (witness c) in
    subst (IsUnknownObserved q g.in-Found.vector.items) (gate-is c) told
