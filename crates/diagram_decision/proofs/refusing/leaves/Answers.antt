use Rattle.std.proofs.Common.{◌≡◌, ◌∙◌, ◌+◌, ◌*◌, Some, Bool, true, List, length, refl, sym, ap, arith}
use Rattle.diagram_decision.proofs.PartLemmas.{Tells-kept, invariant-reads, leaves-is, leaving-value}
use Rattle.diagram_decision.proofs.Common.{Node, IsNodeOf, difference, den, KeepsNodes, within_only, within_one, within_moved, within_more, within_answered, within_refused, within_memory, bits, Rails, Refusal, Tells, values_of, next, found_wide, columns, is_in_invariant, laid, invariant_effort, GrowsInDecision, is_leaving}
use Rattle.bdd_store.proofs.GrowthLemmas.{KeepsNodes-chain}
use Rattle.diagram_decision.specs.Costs.{leaving_cost}
use Rattle.diagram_decision.proofs.DecisionLemmas.{decision-then}
use Rattle.diagram_decision.proofs.LeavesLemmas.{leaves-fit}
use Rattle.diagram_decision.proofs.WorkLemmas.{next-bounded}
use Rattle.diagram_decision.proofs.refusing.leaves.Goals as goal
use Rattle.diagram_decision.proofs.refusing.leaves.Goals.{After-invariant_on, After-minus}

pub invariant_on-requires-clause-reads : goal.invariant_on-requires-clause-reads
invariant_on-requires-clause-reads c =
    let q = c.args.question.now in
    let first = rw c.net-net.ensures.net at c.inputs.ensures.inputs in
    rw (c.care.ensures.care, first) (invariant-reads q.net q.care _ c.care.ensures.is.care (ap length c.deref.ensures.value ∙ c.in_ok-next.ensures.width))

-- ---- the vectors of care whose next state isn't in the invariant

keeps : (c : After-minus) → KeepsNodes c.args.d.now c.invariant_on.new.d
keeps c = KeepsNodes-chain c.next_on.ensures.grows.keeps c.invariant_on.ensures.grows.keeps

-- at vectors of care the invariant is asked of the next state
inside-is : (c : After-minus) (q v : List Bool) → length v ≡ c.invariant_on.new.d.vars → den c.invariant_on.new.d c.args.found.now.set (laid c.args.question.now.net v) ≡ true → next c.args.question.now.net (bits v) ≡ bits q →
    den c.invariant_on.new.d c.in_ok-inside.inside (laid c.args.question.now.net v) ≡ is_in_invariant c.args.question.now.care q
inside-is c q v long counts state = grind arith

told : (c : After-minus) (outside : Node) → IsNodeOf c.minus.new.d outside → ((v : List Bool) → den c.minus.new.d outside v ≡ difference c.invariant_on.new.d c.args.found.now.set c.in_ok-inside.inside v) →
    Tells c.args.question.now.net c.minus.new.d outside (is_leaving c.args.question.now.net c.args.question.now.care)
told c outside node is = record {
  node = node;
  value = λ v wide.
      let long = wide ∙ c.minus.ensures.grows.keeps.vars in
      is (laid c.args.question.now.net v) ∙ leaving-value c.in_ok-inside.inside ((keeps c).vars ∙ c.requires.vars) (Tells-kept (keeps c) c.requires.set) c.requires.loads (inside-is c) v long;
}

pub returns-in_default-clause-refusal : goal.returns-in_default-clause-refusal
returns-in_default-clause-refusal c =
    let set = told (goal.at.returns-in_default-clause-refusal c).After-minus c.in_ok-outside.outside c.in_ok-outside.ensures.node c.in_ok-outside.ensures.function in
    sym (leaves-is c.args.question.now.net c.args.question.now.care (sym (rw c.in_default.is at (c.in_ok-vector.ensures _ set))))

pub leaves_at-requires : goal.leaves_at-requires
leaves_at-requires c =
    let q = c.args.question.now in
    let set = told (goal.at.leaves_at-requires c).After-minus c.in_ok-outside.outside c.in_ok-outside.ensures.node c.in_ok-outside.ensures.function in
    rw c.net-net.ensures.net (found_wide (columns q.net) (is_leaving q.net q.care) c.in-Some.vector.items (sym (rw c.in-Some.is at (c.in_ok-vector.ensures _ set))))

pub returns-clause-refusal : goal.returns-clause-refusal
returns-clause-refusal c =
    let q = c.args.question.now in
    let set = told (goal.at.returns-clause-refusal c).After-minus c.in_ok-outside.outside c.in_ok-outside.ensures.node c.in_ok-outside.ensures.function in
    ap (λ (r : Refusal). Some r) (rw c.net-net.ensures.net at c.in_ok-leaves_at.ensures) ∙ sym (leaves-is q.net q.care (sym (rw c.in-Some.is at (c.in_ok-vector.ensures _ set))))

-- ---- what it does to the diagrams, call by call

after-invariant : (c : After-invariant_on) → GrowsInDecision c.invariant_on.result c.args.d.now c.invariant_on.new.d c.args.question.now.net c.args.question.now.care (2 * length c.args.question.now.net.latches + 2 * invariant_effort c.args.question.now.care)
after-invariant c =
    let q = c.args.question.now in
    let keeps = c.next_on.ensures.grows.keeps in
    let grows = rw c.care.ensures.care at c.invariant_on.ensures.grows in
    decision-then c.next_on.ensures.grows (within_moved (λ w wide.
    next-bounded q.net q.care c.next_on.new.d.vars (keeps.vars ∙ c.requires.vars) wide c.args.d.now c.args.found.now.set (sym keeps.vars) c.requires.set
    (values_of c.next_on.new.d c.deref.result.now)
    (λ v long. ap (λ (l : List Rails). values_of c.next_on.new.d l (laid q.net v)) c.deref.ensures.value ∙ c.in_ok-next.ensures.values v (long ∙ keeps.vars))) grows)

after-minus : (c : After-minus) → GrowsInDecision c.invariant_on.result c.args.d.now c.invariant_on.new.d c.args.question.now.net c.args.question.now.care (2 * length c.args.question.now.net.latches + 2 * invariant_effort c.args.question.now.care) →
    GrowsInDecision c.minus.result c.args.d.now c.minus.new.d c.args.question.now.net c.args.question.now.care (leaving_cost c.args.question.now.net c.args.question.now.care)
after-minus c before =
    let q = c.args.question.now in
    let is = c.care.ensures.is in
    decision-then before (within_only (within_one (λ w wide. leaves-fit q.net q.care c.invariant_on.new.d c.args.found.now.set c.in_ok-inside.inside is.net is.care c.requires.loads
    ((keeps c).vars ∙ c.requires.vars) (Tells-kept (keeps c) c.requires.set) (inside-is c) wide) c.minus.ensures.grows))

pub returns-in_err-next-clause-grows : goal.returns-in_err-next-clause-grows
returns-in_err-next-clause-grows g = within_more (omega arith) (within_refused g.in_err-next.was g.from_residual.ensures.1 g.next_on.ensures.grows)

pub returns-in_err-inside-clause-grows : goal.returns-in_err-inside-clause-grows
returns-in_err-inside-clause-grows g =
    within_more (omega arith) (within_refused g.in_err-inside.was g.from_residual-in_err-inside.ensures.1 (after-invariant (goal.at.returns-in_err-inside-clause-grows g).After-invariant_on))

pub returns-in_err-outside-clause-grows : goal.returns-in_err-outside-clause-grows
returns-in_err-outside-clause-grows g =
    let at = goal.at.returns-in_err-outside-clause-grows g in
    within_refused g.in_err-outside.was g.from_residual-in_err-outside.ensures.1 (after-minus at.After-minus (after-invariant at.After-invariant_on))

pub returns-in_err-vector-clause-grows : goal.returns-in_err-vector-clause-grows
returns-in_err-vector-clause-grows g =
    let at = goal.at.returns-in_err-vector-clause-grows g in
    within_refused {U = Unit} refl g.from_residual-in_err-vector.ensures.1 (within_memory (after-minus at.After-minus (after-invariant at.After-invariant_on)))

pub returns-in_default-clause-grows : goal.returns-in_default-clause-grows
returns-in_default-clause-grows g =
    let at = goal.at.returns-in_default-clause-grows g in
    within_answered (after-minus at.After-minus (after-invariant at.After-invariant_on))

pub returns-in_err-leaves_at-clause-grows : goal.returns-in_err-leaves_at-clause-grows
returns-in_err-leaves_at-clause-grows g =
    let at = goal.at.returns-in_err-leaves_at-clause-grows g in
    within_refused {U = Unit} refl g.from_residual-in_err-leaves_at.ensures.1 (within_memory (after-minus at.After-minus (after-invariant at.After-invariant_on)))

pub returns-clause-grows : goal.returns-clause-grows
returns-clause-grows g =
    let at = goal.at.returns-clause-grows g in
    within_answered (after-minus at.After-minus (after-invariant at.After-invariant_on))
