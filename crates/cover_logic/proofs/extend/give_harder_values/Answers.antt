use Rattle.std.proofs.Common.{arith, rules}
use Rattle.cyc_base.specs.declared.trit.Trit.TheVariants.{X}
use Rattle.cover_logic.proofs.TautologyLemmas.{reduced}
use Rattle.cover_logic.proofs.extend.give_harder_values.Goals as goal
use Rattle.cover_logic.proofs.extend.give_harder_values.Goals.{then-eq+in-Some, then-eq+in_default, else-eq}

pub loop-pin-preserved : goal.loop-pin-preserved
loop-pin-preserved c =
    elim c.if-eq.branch [
      | then-eq+in-Some w ↦ reduced c.args.rows.now c.args.pins.now c.loop-pin.pins c.if-eq.pins c.loop-pin.pin w.in-Some.value w.of.result X (omega arith) (search rules) w.in-Some.ensures w.of.ensures w.pins-is c.loop-pin.invariant
      | then-eq+in_default w ↦ rw w.pins-is c.loop-pin.invariant
      | else-eq w ↦ rw w.pins-is c.loop-pin.invariant
    ]
