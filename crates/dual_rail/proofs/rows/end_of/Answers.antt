use Rattle.std.proofs.Common.{sym, ◌∙◌}
use Rattle.dual_rail.proofs.EndLemmas.{end_of-take-any, end_of-take-asking}
use Rattle.dual_rail.proofs.rows.end_of.Goals.{then-asks, else-asks}
use Rattle.dual_rail.proofs.rows.end_of.Goals as goal

pub loop-pin-preserved : goal.loop-pin-preserved
loop-pin-preserved c = elim c.if-asks.branch [
  | then-asks w ↦ w.end-is ∙ sym (end_of-take-asking c.args.lits.now c.loop-pin.pin _ c.loop-pin-test.true (sym c.asks.ensures ∙ w.if-asks.true))
  | else-asks w ↦ w.end-is ∙ c.loop-pin.invariant ∙ sym (end_of-take-any c.args.lits.now c.loop-pin.pin _ c.loop-pin-test.true (sym c.asks.ensures ∙ w.if-asks.false))
]
