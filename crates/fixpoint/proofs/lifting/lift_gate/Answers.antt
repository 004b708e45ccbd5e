use Rattle.std.proofs.Common.{◌≡◌, ◌∙◌, ap, arith, map}
use Rattle.fixpoint.proofs.Common.{within_moved, within_refused, within_answered, Gate, gate_at}
use Rattle.fixpoint.specs.Lifting.{rails_of_pin}
use Rattle.fixpoint.proofs.WireLemmas.{rails_at-proper, pins-proper, pins-values}
use Rattle.fixpoint.proofs.lifting.lift_gate.Goals as goal
use Rattle.fixpoint.proofs.lifting.lift_gate.Goals.{After-gate_rails}

pub gate_rails-requires-clause-rails : goal.gate_rails-requires-clause-rails
gate_rails-requires-clause-rails c = grind (arith, pins-proper c.args.d.now (rails_of_pin c.args.rails.now) c.items.result.now c.deref.result.now, rails_at-proper c.args.d.now c.args.rails.now c.requires.wires.proper)

-- the rails of the pins
listed : (c : After-gate_rails) → c.deref.result.now ≡ map (rails_of_pin c.args.rails.now) (gate_at c.args.net.now c.args.gate).pins
listed c = c.deref.ensures.value ∙ c.in-Ok.ensures ∙ ap (map (rails_of_pin c.args.rails.now)) (c.items.ensures ∙ ap (λ (g : Gate). g.pins) c.gate.ensures.at)

pub returns-clause-set : goal.returns-clause-set
returns-clause-set c = grind (arith, pins-values c.args.d.now (rails_of_pin c.args.rails.now) (gate_at c.args.net.now c.args.gate).pins c.deref.result.now, listed (goal.at.returns-clause-set c).After-gate_rails)

pub returns-clause-grows : goal.returns-clause-grows
returns-clause-grows c = within_answered (within_moved (λ w bounds. rw (listed (goal.at.returns-clause-grows c).After-gate_rails) bounds) c.gate_rails.ensures.grows)

pub returns-in_err-made-clause-grows : goal.returns-in_err-made-clause-grows
returns-in_err-made-clause-grows c = within_refused c.in_err-made.was c.from_residual.ensures.1 (within_moved (λ w bounds. rw (listed (goal.at.returns-in_err-made-clause-grows c).After-gate_rails) bounds) c.gate_rails.ensures.grows)
