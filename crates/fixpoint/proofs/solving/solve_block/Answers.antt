use Rattle.std.proofs.Common.{◌+◌, ◌*◌, ℕ, length, ◌≡◌, ◌∙◌, false, ap}
use Rattle.fixpoint.proofs.Common.{get_or_default, GrowsWithin, size, gate_at, IsWide, loops_by, IsWorking, HasLargeCover, block_cost, within_moved, within_more, within_refused, within_answered, Block, block_at, home_of, no_block, vectors}
use Rattle.fixpoint.proofs.BoundLemmas.{plain-bounds, plain-cost, gate-few}
use Rattle.fixpoint.proofs.BlockLemmas.{plain-solved}
use Rattle.fixpoint.proofs.solving.solve_block.Goals as goal
use Rattle.fixpoint.proofs.solving.solve_block.Goals.{After-set_gate}

plain : (c : After-set_gate) → (block_at c.args.looped.now.blocks (home_of c.args.looped.now.blocks c.args.gate)).looped ≡ false
plain c =
    let l = c.args.looped.now in
    let place : ℕ = home_of l.blocks c.args.gate in
    let home = c.blocks-blocks.ensures.looped.blocks.home c.args.gate c.requires.gate in
    ap (λ (b : Block). b.looped) (get_or_default l.blocks.list place no_block c.index-items-place.result home) ∙ rw (c.items-2.ensures, c.items.ensures, c.blocks-blocks.ensures.blocks) at c.if-items-place.false

pub returns-clause-solved : goal.returns-clause-solved
returns-clause-solved c =
    rw c.set_gate.ensures.before
    (plain-solved c.args.looped.now c.in_ok-set_gate.ensures.valid c.blocks-blocks.ensures.looped c.args.gate c.requires.gate (plain (goal.at.returns-clause-solved c).After-set_gate) c.args.d.now
    (vectors c.args.looped.now.net c.args.d.now c.args.wires.now.rails.items) c.args.wires.now.before.items c.args.wires.now.rails.items c.requires.solved c.set_gate.new.d c.set_gate.new.self.rails.items c.set_gate.ensures.grows.keeps c.in_ok-set_gate.ensures.set)

-- a gate of no loop costs at most what its block does
gate-set : (c : After-set_gate) → GrowsWithin c.set_gate.result c.args.d.now c.set_gate.new.d (HasLargeCover c.args.looped.now.net) (IsWide c.args.d.now.vars (IsWorking c.args.looped.now.net (loops_by c.args.looped.now.blocks c.args.looped.now.cut) (vectors c.args.looped.now.net c.args.d.now c.args.wires.now.rails.items)))
    (2 * ((length c.args.looped.now.net.gates + 1) * block_cost c.args.looped.now.net c.args.looped.now.blocks (home_of c.args.looped.now.blocks c.args.gate)))
gate-set c =
    let few = gate-few c.args.looped.now.net c.args.looped.now.blocks c.args.gate c.requires.gate in
    within_more (plain-cost (size (gate_at c.args.looped.now.net c.args.gate).cover) (length c.args.looped.now.net.gates) (block_cost c.args.looped.now.net c.args.looped.now.blocks (home_of c.args.looped.now.blocks c.args.gate)) few)
    (within_moved (λ w wide. plain-bounds c.args.looped.now c.set_gate.ensures.valid c.blocks-blocks.ensures.looped c.args.gate c.requires.gate (plain c) c.args.d.now
    (vectors c.args.looped.now.net c.args.d.now c.args.wires.now.rails.items) c.args.wires.now.before.items c.args.wires.now.rails.items c.requires.solved wide) c.set_gate.ensures.grows)

pub returns-clause-grows : goal.returns-clause-grows
returns-clause-grows c = within_answered (gate-set ((goal.at.returns-clause-grows c).After-set_gate))

pub returns-in_err-set_gate-clause-grows : goal.returns-in_err-set_gate-clause-grows
returns-in_err-set_gate-clause-grows c = within_refused c.in_err-set_gate.was c.from_residual-in_err-set_gate.ensures.1 (gate-set ((goal.at.returns-in_err-set_gate-clause-grows c).After-set_gate))
