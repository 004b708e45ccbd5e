use Rattle.std.proofs.Common.{◌≡◌, length, arith}
use Rattle.verdict.proofs.Common.{ListsMarked, AreCandidates}
use Rattle.verdict.proofs.LooseLemmas.{unknown-marked}
use Rattle.verdict.proofs.CandidateLemmas.{listed-within}
use Rattle.verdict.proofs.unknown.unknown_gates.Goals as goal
use Rattle.verdict.proofs.unknown.unknown_gates.Goals.{After-deref-2, After-len}

-- the gates that may be unknown are marked, and listed
candidates : (c : After-deref-2) → AreCandidates c.args.question.now.net c.args.question.now.blocks c.args.question.now.settled c.in_ok-marks.marks.items
candidates c = rw (c.looped.ensures.looped, c.settled.ensures.settled) at c.in_ok-marks.ensures

listed : (c : After-deref-2) → ListsMarked c.in_ok-marks.marks.items (length c.args.question.now.net.gates) c.in_ok-gates.gates.items
listed c = rw (c.deref.ensures.value, (candidates c).width) at c.in_ok-gates.ensures

wide : (c : After-len) → length c.in_ok-marks.marks.items ≡ length c.args.question.now.net.gates → c.len.result ≡ length c.args.question.now.net.gates
wide c is = omega (arith, c.len.ensures, c.in_ok-marks.marks.ok.0, is)

pub ask_gates-requires : goal.ask_gates-requires
ask_gates-requires c = grind (arith, listed-within c.in_ok-marks.marks.items (length c.args.question.now.net.gates) c.in_ok-gates.gates.items (listed (goal.at.ask_gates-requires c).After-deref-2), listed (goal.at.ask_gates-requires c).After-deref-2)

pub scatter-requires-clause-places : goal.scatter-requires-clause-places
scatter-requires-clause-places c =
    let at = goal.at.scatter-requires-clause-places c in
    grind (arith, wide at.After-len (candidates at.After-deref-2).width, candidates at.After-deref-2, listed-within c.in_ok-marks.marks.items (length c.args.question.now.net.gates) c.in_ok-gates.gates.items (listed at.After-deref-2), listed at.After-deref-2)

pub returns : goal.returns
returns c =
    let s = c.args.question.now in
    let at = goal.at.returns c in
    let told = rw (c.in-Some.is, c.deref-2.ensures.value) at c.in_ok-found.ensures in
    let spread = rw (wide at.After-len (candidates at.After-deref-2).width, c.deref-4.ensures.value, c.deref-3.ensures.value) at c.in_ok-scatter.ensures in
    let is = c.looped.ensures.is in
    grind (arith, unknown-marked s.net is.net s.blocks is.blocks s.settled is.settled s.care c.in_ok-marks.marks.items c.in_ok-gates.gates.items c.in-Some.found.items c.in_ok-scatter.field-0.items (candidates at.After-deref-2) (listed at.After-deref-2) told spread, candidates at.After-deref-2, listed at.After-deref-2)
