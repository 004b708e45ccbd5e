use Rattle.std.proofs.Common.{◌≡◌, ◌∙◌, ap, get_or, arith}
use Rattle.isolation.proofs.Common.{Gate, Parts, block_at, gate_at}
use Rattle.isolation.proofs.BuildingLemmas.{wires_at, pin_at}
use Rattle.isolation.proofs.excerpt.outside_of.Goals as goal
use Rattle.isolation.proofs.excerpt.outside_of.Goals.{After-items-pins}

-- the pins of the next gate
pins : (c : After-items-pins) → c.items-pins.result.now ≡ (gate_at c.args.looped.now.net (get_or c.gates_at-gate-items.result.now c.loop-gate.gate-index 0)).pins
pins c = c.items-pins.ensures ∙ ap (λ (g : Gate). g.pins) c.gate.ensures.at ∙ ap (λ (net : Parts). (gate_at net (get_or c.gates_at-gate-items.result.now c.loop-gate.gate-index 0)).pins) c.net.ensures.net

pub loop-gate-preserved : goal.loop-gate-preserved
loop-gate-preserved c =
    let l = c.args.looped.now in
    wires_at l.net (block_at l.blocks c.args.place).gates c.gates_at-gate-items.result.now c.loop-gate.gate-index 0 c.items-pins.result.now c.loop-gate.outside.keys c.add_outside.new.outside.keys
    c.gates_at-gate-items.ensures.is c.loop-gate-test.true (pins (goal.at.loop-gate-preserved c).After-items-pins) c.loop-gate.invariant c.in_ok-add_outside.ensures

pub add_outside-requires-clause-read : goal.add_outside-requires-clause-read
add_outside-requires-clause-read c =
    let l = c.args.looped.now in
    pin_at l.net (block_at l.blocks c.args.place).gates c.gates_at-gate-items.result.now c.loop-gate.gate-index 0 c.items-pins.result.now c.gates_at-gate-items.ensures.is c.loop-gate-test.true (pins (goal.at.add_outside-requires-clause-read c).After-items-pins)

pub returns : goal.returns
returns c = grind arith
