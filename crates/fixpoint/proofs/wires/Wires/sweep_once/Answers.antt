use Rattle.std.proofs.Common.{◌*◌, ◌≤◌, ◌≡◌, ◌∙◌, ◌+◌, ℕ, List, [], ◌∷◌, ◌++◌, length, map, filter, subst, sym, ap, ap₂, arith, true≢false}
use Rattle.fixpoint.proofs.Common.{HasLargeCover, GrowsWithin, IsLawful, within_refused, within_answered, IsWide, Rails, block_at, is_cut, loops_by, first_gate, Vectors, rails_at, AreWires, IsSweepable, after_sweeps, IsUnderway, IsWorking, order_cost}
use Rattle.fixpoint.specs.Plans.{IsPlanOf}
use Rattle.fixpoint.proofs.LoopLemmas.{at-rest, underway-next}
use Rattle.fixpoint.proofs.wires.Wires.sweep_once.Goals as goal
use Rattle.fixpoint.proofs.wires.Wires.sweep_once.Goals.{After-sweep, After-are_still, After-keep_cuts}

-- where the loop is underway, the sweep may read what it reads
abbrev Underway : (c : After-sweep) → ℕ → Vectors → Type 0
Underway c b v = IsUnderway c.args.looped.now c.args.d.now v b c.args.plan.now.cuts c.args.steps.now.items c.args.self.now.before.items c.args.self.now.rails.items

ready : (c : After-sweep) (b : ℕ) (v : Vectors) → IsPlanOf c.args.looped.now b c.args.plan.now → Underway c b v
    → IsSweepable c.args.looped.now c.args.d.now v (after_sweeps c.args.looped.now v (length c.args.steps.now.items)) b c.items.result.now c.args.self.now.before.items c.args.self.now.rails.items
ready c b v plan under = record { are = plan.are; loop = plan.loop; follows = rw c.items.ensures plan.order; solved = under.solved; cuts = under.cuts_are }

-- what it costs
swept-once : (c : After-sweep) (b : ℕ) (v : Vectors) → IsPlanOf c.args.looped.now b c.args.plan.now → Underway c b v
    → GrowsWithin c.sweep.result c.args.d.now c.sweep.new.d (HasLargeCover c.args.looped.now.net) (IsWide c.args.d.now.vars (IsWorking c.args.looped.now.net (loops_by c.args.looped.now.blocks c.args.looped.now.cut) v)) (2 * order_cost c.args.looped.now.net c.args.plan.now.order)
swept-once c b v plan under =
    let few : length c.args.steps.now.items ≤ length (filter (is_cut c.args.looped.now.cut.wires) (block_at c.args.looped.now.blocks b).gates) = omega (arith, under.few, ap length plan.cuts) in
    subst (λ (ns : List ℕ). GrowsWithin c.sweep.result c.args.d.now c.sweep.new.d (HasLargeCover c.args.looped.now.net) (IsWide c.args.d.now.vars (IsWorking c.args.looped.now.net (loops_by c.args.looped.now.blocks c.args.looped.now.cut) v)) (2 * order_cost c.args.looped.now.net ns)) c.items.ensures
    (c.sweep.ensures.grows b (length c.args.steps.now.items) v (ready c b v plan under) few)

pub returns-in_err-sweep-clause-grows : goal.returns-in_err-sweep-clause-grows
returns-in_err-sweep-clause-grows c b v plan under = within_refused c.in_err-sweep.was c.from_residual-in_err-sweep.ensures.1 (swept-once ((goal.at.returns-in_err-sweep-clause-grows c).After-sweep) b v plan under)

pub returns-then-are_still-clause-grows : goal.returns-then-are_still-clause-grows
returns-then-are_still-clause-grows c b v plan under = within_answered (swept-once ((goal.at.returns-then-are_still-clause-grows c).After-sweep) b v plan under)

pub returns-clause-grows : goal.returns-clause-grows
returns-clause-grows c b v plan under = within_answered (swept-once ((goal.at.returns-clause-grows c).After-sweep) b v plan under)

-- the step and the first gate as the lemmas name them
pushed-step : (c : After-are_still) → c.push.new.self.items ≡ c.args.steps.now.items ++ map (rails_at c.args.self.now.before.items) c.args.plan.now.cuts ∷ []
pushed-step c = c.in_ok-push.ensures.items ∙ ap (λ (x : List Rails). c.args.steps.now.items ++ x ∷ []) (c.of.ensures ∙ c.in_ok-step.ensures ∙ ap₂ (λ (bs : List Rails) (ns : List ℕ). map (rails_at bs) ns) c.deref.ensures.value c.items-cuts.ensures)

first-is : (c : After-are_still) → c.columns-first.result ≡ first_gate c.args.looped.now.net
first-is c = omega (arith, c.columns-first.ensures.columns, ap first_gate c.net.ensures.net)

-- the sweep leaves what was before it
same-before : (c : After-are_still) (n : ℕ) → rails_at c.sweep.new.self.before.items n ≡ rails_at c.args.self.now.before.items n
same-before c n = ap (λ (bs : List Rails). rails_at bs n) c.sweep.ensures.before

-- the cut wires stand still
pub returns-then-are_still-clause-swept : goal.returns-then-are_still-clause-swept
returns-then-are_still-clause-swept c b v plan under =
    let at : After-are_still = (goal.at.returns-then-are_still-clause-swept c).After-are_still in
    let start = ready (goal.at.returns-then-are_still-clause-swept c).After-sweep b v plan under in
    let states = after_sweeps c.args.looped.now v (length c.args.steps.now.items) in
    rw (c.sweep.ensures.before, pushed-step at)
    (at-rest c.args.looped.now plan.are b plan.loop v c.args.d.now c.sweep.new.d c.sweep.ensures.keeps (subst IsLawful c.store.ensures c.laws.ensures)
    c.args.plan.now.cuts plan.cuts c.args.steps.now.items c.args.self.now.before.items c.args.self.now.rails.items c.sweep.new.self.rails.items under (c.in_ok-sweep.ensures.solved b v states start) (c.in_ok-sweep.ensures.swept b v states start)
    (λ n has. sym (same-before at n) ∙ c.are_still.ensures.0 c.if-are_still.true n (rw c.items-cuts.ensures has) ∙ ap (λ (m : ℕ). rails_at c.sweep.new.self.rails.items (m + n)) (first-is at)))

wires-kept : (c : After-keep_cuts) → AreWires c.args.looped.now.net c.sweep.new.d c.keep_cuts.new.self.before.items c.sweep.new.self.rails.items
wires-kept c =
    let wires = c.in_ok-sweep.ensures.wires in
    record {
      width = wires.width;
      before_width = c.keep_cuts.ensures.width ∙ wires.before_width;
      proper = wires.proper;
      before_proper = c.keep_cuts.ensures.proper c.sweep.new.d wires.proper wires.before_proper;
    }

pub returns-clause-wires : goal.returns-clause-wires
returns-clause-wires c = rw c.keep_cuts.ensures.rails (wires-kept (goal.at.returns-clause-wires c).After-keep_cuts)

-- else they are kept
pub returns-clause-swept : goal.returns-clause-swept
returns-clause-swept c b v plan under =
    let at : After-are_still = (goal.at.returns-clause-swept c).After-are_still in
    let start = ready (goal.at.returns-clause-swept c).After-sweep b v plan under in
    let states = after_sweeps c.args.looped.now v (length c.args.steps.now.items) in
    let after = c.sweep.new.self.rails.items in
    let first : (n : ℕ) → rails_at after (c.columns-first.result + n) ≡ rails_at after (first_gate c.args.looped.now.net + n) = λ n. ap (λ (m : ℕ). rails_at after (m + n)) (first-is at) in
    rw (c.keep_cuts.ensures.rails, pushed-step at)
    (underway-next c.args.looped.now plan.are b plan.loop v c.args.d.now c.sweep.new.d c.sweep.ensures.keeps (subst IsLawful c.store.ensures c.laws.ensures)
    c.args.plan.now.cuts plan.cuts c.args.steps.now.items c.args.self.now.before.items c.args.self.now.rails.items after under (c.in_ok-sweep.ensures.solved b v states start) (c.in_ok-sweep.ensures.swept b v states start)
    c.keep_cuts.new.self.before.items
    (λ n has. c.keep_cuts.ensures.kept n (rw c.items-cuts.ensures has) ∙ first n)
    (λ n free. c.keep_cuts.ensures.others n (rw c.items-cuts.ensures free) ∙ same-before at n)
    (wires-kept (goal.at.returns-clause-swept c).After-keep_cuts)
    (λ all. true≢false (sym (c.are_still.ensures.1 (λ n has. same-before at n ∙ all n (rw c.items-cuts.ensures at has) ∙ sym (first n))) ∙ c.if-are_still.false)))
