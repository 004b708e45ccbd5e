use Rattle.std.proofs.Common.{◌≡◌, ◌∙◌, ◌+◌, ◌*◌, ◌<◌, Some, Bool, false, List, length, get_or, refl, sym, ap₂, arith, true≢false}
use Rattle.diagram_decision.proofs.Common.{get_or_default, HasGrown, within_then, within_moved, within_more, within_answered, within_refused, within_memory, Sig, IsWide, columns, Undetermined, IsLaid, GrowsInDecision}
use Rattle.diagram_decision.proofs.DecisionLemmas.{wide-kept}
use Rattle.diagram_decision.proofs.PartLemmas.{IsKnownOnCare, none_found, undetermined-found, undetermined-none, known-more, loose-more, loose-same, loose-all, AreFixed-kept, Tells-kept}
use Rattle.diagram_decision.proofs.refusing.verdict_of_gates.Goals as goal
use Rattle.diagram_decision.proofs.refusing.verdict_of_gates.Goals.{After-gate_unknown, then-index+in_ok-vector+in_default, else-index+then-not-is_never, else-index+else-not-is_never}

gate-inside : (c : After-gate_unknown) → c.loop-gate.gate < length c.args.question.now.net.gates
gate-inside c = let gates = rw c.net-net.ensures.net at c.gates-gate-end.ensures.gates in omega (arith, c.loop-gate-test.true, gates)

pub gate_unknown-requires-clause-fixed : goal.gate_unknown-requires-clause-fixed
gate_unknown-requires-clause-fixed c = AreFixed-kept c.loop-gate.invariant.grows.keeps c.requires.fixed

pub gate_unknown-requires-clause-set : goal.gate_unknown-requires-clause-set
gate_unknown-requires-clause-set c = Tells-kept c.loop-gate.invariant.grows.keeps c.requires.set

-- ---- what the gates cost

step : (c : After-gate_unknown) → GrowsInDecision c.gate_unknown.result c.args.d.now c.gate_unknown.new.d c.args.question.now.net c.args.question.now.care (2 * c.loop-gate.gate + 2)
step c = within_then c.loop-gate.invariant.grows (within_moved (λ w wide. wide-kept c.loop-gate.invariant.grows.keeps wide) c.gate_unknown.ensures.grows)

-- so many at most
all-gates : (c : After-gate_unknown) → GrowsInDecision c.gate_unknown.result c.args.d.now c.gate_unknown.new.d c.args.question.now.net c.args.question.now.care (2 * length c.args.question.now.net.gates)
all-gates c = grind (arith, gate-inside c, within_more, step c)

pub returns-in_err-unknown-clause-grows : goal.returns-in_err-unknown-clause-grows
returns-in_err-unknown-clause-grows c = within_refused c.in_err-unknown.was c.from_residual-in_err-unknown.ensures.1 (all-gates (goal.at.returns-in_err-unknown-clause-grows c).After-gate_unknown)

pub returns-in_err-vector-clause-grows : goal.returns-in_err-vector-clause-grows
returns-in_err-vector-clause-grows c = within_refused {U = Unit} refl c.from_residual-in_err-vector.ensures.1 (within_memory (all-gates (goal.at.returns-in_err-vector-clause-grows c).After-gate_unknown))

pub returns-in-Some-clause-grows : goal.returns-in-Some-clause-grows
returns-in-Some-clause-grows c = within_answered (all-gates (goal.at.returns-in-Some-clause-grows c).After-gate_unknown)

pub returns-clause-grows : goal.returns-clause-grows
returns-clause-grows c = grind arith

-- ---- what is known of the gates

vars-are : (c : After-gate_unknown) → c.gate_unknown.new.d.vars ≡ columns c.args.question.now.net
vars-are c = c.gate_unknown.ensures.grows.keeps.vars ∙ c.loop-gate.invariant.grows.keeps.vars ∙ c.requires.vars

-- an observed gate that is unknown at a vector of care, with the least
pub returns-in-Some-clause-gates : goal.returns-in-Some-clause-gates
returns-in-Some-clause-gates c =
    let q = c.args.question.now in
    let gate = c.loop-gate.gate in
    let marks : List Bool = c.in_ok-observed.observed.items in
    let marked = rw (c.net-net.ensures.net, c.observe.ensures) at c.in_ok-observed.ensures.marks in
    let inside = gate-inside (goal.at.returns-in-Some-clause-gates c).After-gate_unknown in
    let width = marked.width in
    undetermined-found q.net q.care q.what gate c.in-Some.vector.items inside (record {
      seen = sym (marked.each gate inside) ∙ get_or_default marks gate false c.index.result.now (omega (arith, inside, width)) ∙ sym c.index.ensures ∙ c.if-index.true;
      before = λ k less seen. c.loop-gate.invariant.known k less (marked.each k (omega (arith, less, inside)) ∙ seen);
    })
    (sym (rw c.in-Some.is at (c.in_ok-vector.ensures _ c.in_ok-unknown.ensures.told)))
    ∙ sym (ap₂ (λ (v : List Bool) (s : Sig). Some (Undetermined v s)) c.of.ensures (rw c.net-net.ensures.net at c.gate_sig.ensures.sig))

pub loop-gate-preserved : goal.loop-gate-preserved
loop-gate-preserved c =
    let q = c.args.question.now in
    let gate = c.loop-gate.gate in
    let loose = c.loop-gate.loose in
    let marks : List Bool = c.in_ok-observed.observed.items in
    let unknown : After-gate_unknown = (goal.at.loop-gate-preserved c).After-gate_unknown in
    let grows : HasGrown c.args.d.now c.gate_unknown.new.d (IsWide c.args.d.now.vars (IsLaid q.net q.care)) (2 * (gate + 1)) = within_more (omega arith) (within_answered (step unknown)) in
    let told = c.in_ok-unknown.ensures.told in
    let marked = rw c.net-net.ensures.net at c.in_ok-observed.ensures.marks in
    let inside = gate-inside unknown in
    let before = c.loop-gate.invariant in
    let few = c.loop-gate.invariant.few in
    elim c.if-index.branch [
      | then-index+in_ok-vector+in_default w ↦
          let here : IsKnownOnCare q.net q.care gate = sym (rw w.in_default.is at (w.in_ok-vector.ensures _ told)) in
          let same = w.loose-is in
          record {
            grows = grows;
            known = known-more q.net q.care marks gate before.known (λ is. here);
            loose = w.loose-is ∙ loose-same q.net q.care gate loose inside before.loose here;
            few = omega (arith, few, same);
          }
      | else-index+then-not-is_never w ↦
          let width = marked.width in
          let isnt : get_or marks gate false ≡ false = get_or_default marks gate false c.index.result.now (omega (arith, inside, width)) ∙ sym c.index.ensures ∙ w.if-index.false in
          let same = w.loose-is in
          record {
            grows = grows;
            known = known-more q.net q.care marks gate before.known (λ is. absurd (true≢false (sym is ∙ isnt)));
            loose = w.loose-is ∙ loose-more q.net q.care gate loose inside before.loose (sym (w.is_never.ensures.told q.net _ (vars-are unknown) told) ∙ w.if-not-is_never.true);
            few = omega (arith, few, same);
          }
      | else-index+else-not-is_never w ↦
          let here : IsKnownOnCare q.net q.care gate = none_found _ (sym (w.is_never.ensures.told q.net _ (vars-are unknown) told) ∙ w.if-not-is_never.false) in
          let same = w.loose-is in
          record {
            grows = grows;
            known = known-more q.net q.care marks gate before.known (λ is. here);
            loose = w.loose-is ∙ loose-same q.net q.care gate loose inside before.loose here;
            few = omega (arith, few, same);
          }
    ]

pub returns-clause-gates : goal.returns-clause-gates
returns-clause-gates c =
    let q = c.args.question.now in
    grind (arith, undetermined-none q.net q.care q.what, loose-all q.net q.care c.loop-gate.gate c.loop-gate.loose)
