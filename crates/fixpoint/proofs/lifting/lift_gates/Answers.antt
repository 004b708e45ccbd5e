use Rattle.std.proofs.Common.{◌≡◌, ◌++◌, ◌∙◌, List, length, take, drop, ap}
use Rattle.fixpoint.proofs.Common.{within_refused, within_answered, Rails, values_of, AreLifted}
use Rattle.std.proofs.lemmas.List.{take_at}
use Rattle.fixpoint.proofs.LiftLemmas.{lifted-start}
use Rattle.fixpoint.proofs.lifting.lift_gates.Goals as goal
use Rattle.fixpoint.proofs.lifting.lift_gates.Goals.{After-deref_mut, After-lift_in_order}

-- before the gates, inputs and latches have the given values
start : (c : After-deref_mut) → AreLifted c.args.net.now c.deref.result.now c.args.d.now (λ bits. values_of c.args.d.now c.args.given.now bits) 0 c.deref_mut.result.now
start c = lifted-start c.args.net.now c.deref.result.now c.args.d.now c.args.given.now c.deref_mut.result.now c.requires.width c.requires.rails (c.deref_mut.ensures.value ∙ c.in_ok-rails.ensures)

-- after them, all rails are given back
given-back : (c : After-lift_in_order) → take c.in_ok-rails.rails.len (c.lift_in_order.new.rails ++ drop (length c.lift_in_order.new.rails) c.in_ok-rails.rails.items) ≡ c.lift_in_order.new.rails
given-back c = take_at c.lift_in_order.new.rails (drop (length c.lift_in_order.new.rails) c.in_ok-rails.rails.items) c.in_ok-rails.rails.len (c.lift_in_order.auto.rails ∙ c.deref_mut.ensures.len)

pub lift_in_order-requires-clause-wires : goal.lift_in_order-requires-clause-wires
lift_in_order-requires-clause-wires c = (start (goal.at.lift_in_order-requires-clause-wires c).After-deref_mut).wires

pub returns-clause-rails : goal.returns-clause-rails
returns-clause-rails c = rw (given-back (goal.at.returns-clause-rails c).After-lift_in_order) c.in_ok-lift_in_order.ensures.wires.proper

pub returns-clause-values : goal.returns-clause-values
returns-clause-values c bits =
    ap (λ (rails : List Rails). values_of c.lift_in_order.new.d rails bits) (given-back (goal.at.returns-clause-values c).After-lift_in_order)
    ∙ c.in_ok-lift_in_order.ensures.values (λ bs. values_of c.args.d.now c.args.given.now bs) (start (goal.at.returns-clause-values c).After-deref_mut) bits

pub returns-clause-grows : goal.returns-clause-grows
returns-clause-grows c = within_answered (c.lift_in_order.ensures.grows (λ bits. values_of c.args.d.now c.args.given.now bits) (start (goal.at.returns-clause-grows c).After-deref_mut))

pub returns-in_err-lift_in_order-clause-grows : goal.returns-in_err-lift_in_order-clause-grows
returns-in_err-lift_in_order-clause-grows c =
    within_refused c.in_err-lift_in_order.was c.from_residual-in_err-lift_in_order.ensures.1 (c.lift_in_order.ensures.grows (λ bits. values_of c.args.d.now c.args.given.now bits) (start (goal.at.returns-in_err-lift_in_order-clause-grows c).After-deref_mut))

pub returns-clause-width : goal.returns-clause-width
returns-clause-width c = ap length (given-back (goal.at.returns-clause-width c).After-lift_in_order) ∙ c.in_ok-lift_in_order.ensures.wires.width

pub lift_in_order-requires-clause-order : goal.lift_in_order-requires-clause-order
lift_in_order-requires-clause-order c = rw c.deref.ensures.value (rw c.in-Ok-Some.field-0-is at c.in-Ok-Some.ensures.order)
