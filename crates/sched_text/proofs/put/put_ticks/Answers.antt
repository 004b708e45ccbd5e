use Rattle.std.proofs.Common.{arith, subst, List}
use Rattle.sched_text.proofs.Common.{RoundPlan, All-more, tick_text, AreSmall, appended_none, appended_item, appended_in_item, appended_items}
use Rattle.std.specs.Prelude.{All}
use Rattle.std.proofs.lemmas.List.{take_all}
use Rattle.sched_text.proofs.put.put_ticks.Goals as goal

pub loop-tick-init : goal.loop-tick-init
loop-tick-init g c = record { text = appended_none _ _ _; small = λ k d inside. absurd (omega (arith, inside)) }

pub loop-tick-preserved : goal.loop-tick-preserved
loop-tick-preserved g c = record {
  text = appended_item (tick_text c.args.net.now) c.args.ticks.now c.loop-tick.tick-index c.tick-item.result _ _ _ _ _ _ _ _ (omega arith) c.tick-item.is c.loop-tick.invariant.text (rw c.items.ensures at c.in_ok-put_tick.ensures.text);
  small = let P = λ (t : List RoundPlan). All (λ (r : RoundPlan). AreSmall r) t in All-more P c.args.ticks.now c.loop-tick.tick-index c.tick-item.result (omega arith) c.loop-tick.invariant.small (subst P c.tick-item.is (rw c.items.ensures at c.in_ok-put_tick.ensures.small));
}

pub returns-in_err-put_tick-clause-text : goal.returns-in_err-put_tick-clause-text
returns-in_err-put_tick-clause-text g c = appended_in_item (tick_text c.args.net.now) c.args.ticks.now c.loop-tick.tick-index c.tick-item.result _ _ _ _ _ _ _ _ _ (omega arith) c.tick-item.is c.loop-tick.invariant.text (rw c.items.ensures at c.in_err-put_tick.ensures.text) c.from_residual.ensures.0

pub returns-clause-text : goal.returns-clause-text
returns-clause-text g c = appended_items (tick_text c.args.net.now) c.args.ticks.now c.loop-tick.tick-index _ _ (omega arith) c.loop-tick.invariant.text

pub returns-clause-small : goal.returns-clause-small
returns-clause-small g c = subst (λ (ticks : List (List RoundPlan)). All (All AreSmall) ticks) (take_all c.loop-tick.tick-index c.args.ticks.now (omega arith)) c.loop-tick.invariant.small
