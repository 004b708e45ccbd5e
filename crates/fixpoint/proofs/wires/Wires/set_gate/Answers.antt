use Rattle.std.proofs.Common.{◌≡◌, ◌∙◌, ap, arith, map}
use Rattle.fixpoint.proofs.Common.{within_moved, within_refused, within_answered, Sig, Rails, Gate, Parts, gate_at, rails_read}
use Rattle.fixpoint.proofs.WireLemmas.{rails_read-proper, pins-proper, pins-values}
use Rattle.fixpoint.proofs.wires.Wires.set_gate.Goals as goal
use Rattle.fixpoint.proofs.wires.Wires.set_gate.Goals.{After-gate_rails}

pub gate_rails-requires-clause-rails : goal.gate_rails-requires-clause-rails
gate_rails-requires-clause-rails c =
    pins-proper c.args.d.now (rails_read c.args.looped.now.net c.args.looped.now.cut c.args.self.now.before.items c.args.self.now.rails.items) c.items.result.now c.deref.result.now
    (rails_read-proper c.args.looped.now.net c.args.looped.now.cut c.args.d.now c.args.self.now.before.items c.args.self.now.rails.items c.requires.wires) (c.deref.ensures.value ∙ c.in-Ok.ensures)

-- the rails that the pins read
abbrev reads : After-gate_rails → Sig → Rails
reads c = rails_read c.args.looped.now.net c.args.looped.now.cut c.args.self.now.before.items c.args.self.now.rails.items

listed : (c : After-gate_rails) → c.deref.result.now ≡ map (reads c) (gate_at c.args.looped.now.net c.args.gate).pins
listed c = c.deref.ensures.value ∙ c.in-Ok.ensures ∙ ap (map (reads c)) (c.items.ensures ∙ ap (λ (g : Gate). g.pins) (c.gate.ensures.at ∙ ap (λ (n : Parts). gate_at n c.args.gate) c.net-net.ensures.net))

pub returns-clause-set : goal.returns-clause-set
returns-clause-set c =
    let after : After-gate_rails = (goal.at.returns-clause-set c).After-gate_rails in
    grind (arith, After-gate_rails, pins-values c.args.d.now (reads after) (gate_at c.args.looped.now.net c.args.gate).pins c.deref.result.now, listed after)

pub returns-clause-grows : goal.returns-clause-grows
returns-clause-grows c = within_answered (within_moved (λ w bounds. rw (listed (goal.at.returns-clause-grows c).After-gate_rails) bounds) (rw c.net-net.ensures.net at c.gate_rails.ensures.grows))

pub returns-in_err-made-clause-grows : goal.returns-in_err-made-clause-grows
returns-in_err-made-clause-grows c = within_refused c.in_err-made.was c.from_residual.ensures.1 (within_moved (λ w bounds. rw (listed (goal.at.returns-in_err-made-clause-grows c).After-gate_rails) bounds) (rw c.net-net.ensures.net at c.gate_rails.ensures.grows))
