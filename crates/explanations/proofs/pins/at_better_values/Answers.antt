use Rattle.std.proofs.Common.{◌≡◌, List, length, sym, subst, ◌∙◌, arith}
use Rattle.std.proofs.lemmas.List.{take_at}
use Rattle.explanations.specs.declared.pins.Pin.{Pin}
use Rattle.explanations.specs.Pins.{AreAsGood}
use Rattle.explanations.proofs.pins.at_better_values.Goals as goal

pub loop-pin-init : goal.loop-pin-init
loop-pin-init c = grind arith

pub loop-pin-preserved : goal.loop-pin-preserved
loop-pin-preserved c =
    let before = c.loop-pin.invariant in
    let better = c.choose_better.new.pins in
    let after : AreAsGood c.args.cover.now c.args.wanted c.loop-pin.chosen.items better = rw c.deref_mut.ensures.value at c.choose_better.ensures in
    let same = after.size in
    let own = c.loop-pin.chosen.ok.0 in
    let size : length better ≡ c.loop-pin.chosen.len = omega arith in
    subst (λ (pins : List Pin). AreAsGood c.args.cover.now c.args.wanted c.args.pins.now pins) (sym (take_at better _ c.loop-pin.chosen.len size))
    record { size = after.size ∙ before.size; can = (λ b. before.can.0 (after.can.0 b), λ b. after.can.1 (before.can.1 b)) }
