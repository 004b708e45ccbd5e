use Rattle.explanations.proofs.sides.stays_beside.Goals as goal

pub returns : goal.returns
returns c = rw (c.deref.ensures.value, c.in_ok-pins.ensures, c.items.ensures, c.gate-gate.ensures.at) at c.stays_open.ensures
