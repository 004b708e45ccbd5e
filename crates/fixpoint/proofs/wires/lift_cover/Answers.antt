use Rattle.std.proofs.Common.{ℕ, ◌∙◌, arith}
use Rattle.fixpoint.proofs.Common.{within_moved, within_more, value, BoundsEach, IsExtended, gate_at, no_gate}
use Rattle.dual_rail.specs.Local.{function}
use Rattle.fixpoint.proofs.WorkLemmas.{bounds-diagram}
use Rattle.fixpoint.proofs.wires.lift_cover.Goals as goal

-- a bound of the lift by the cover is one by its diagram, which has the cover's size
pub returns-clause-grows : goal.returns-clause-grows
returns-clause-grows c =
    let cover = (gate_at c.args.net.now c.args.gate).cover in
    let as_large = c.sizes.ensures c.args.diagram.now cover c.requires.diagram in
    let bounded : (w : ℕ) → BoundsEach c.args.d.now.vars (IsExtended c.args.d.now c.args.pins.now (value (gate_at c.args.net.now c.args.gate).cover)) w → BoundsEach c.args.d.now.vars (IsExtended c.args.d.now c.args.pins.now (function c.args.diagram.now)) w =
    λ w. bounds-diagram c.args.d.now c.args.pins.now c.args.diagram.now (value cover) cover.pins (c.requires.pins ∙ c.laws.ensures.valid.pin_counts c.args.gate no_gate c.requires.gate) c.requires.diagram.function in
    within_more (omega (arith, as_large)) (within_moved bounded c.lift.ensures.grows)
