use Rattle.std.proofs.Common.{◌<◌, ◌≤◌, [], length, List, subst, arith}
use Rattle.std.specs.Prelude.{All}
use Rattle.sched_text.proofs.Common.{PlannedEvent, All-more, event_text, HasSmallAges, appended_none, appended_copied, appended_in_copied, appended_items}
use Rattle.std.proofs.lemmas.List.{get_or_default}
use Rattle.delay_core.specs.EventLists.{planned_at}
use Rattle.std.proofs.lemmas.List.{take_all}
use Rattle.sched_text.proofs.put.put_events.Goals as goal

pub put_event-requires-clause-gate : goal.put_event-requires-clause-gate
put_event-requires-clause-gate g c = grind arith

pub loop-i-init : goal.loop-i-init
loop-i-init g c = record { text = appended_none _ _ _; small = λ k d inside. absurd (omega (arith, inside)) }

pub loop-i-preserved : goal.loop-i-preserved
loop-i-preserved g c =
    let short : c.loop-i.i < length c.args.events.now = omega (arith, c.loop-i-test.true, c.len-i-end.ensures) in
    record {
      text = appended_copied (event_text c.args.net.now) c.args.events.now c.loop-i.i _ _ _ _ _ _ _ _ _ short c.loop-i.invariant.text c.in_ok-put_event.ensures.text;
      small = let P = λ (p : PlannedEvent). HasSmallAges p in All-more P c.args.events.now c.loop-i.i (planned_at c.args.events.now c.loop-i.i) short c.loop-i.invariant.small
          (subst P (get_or_default c.args.events.now c.loop-i.i (record { line = 0; event = record { gate = 0; ages = [] } }) (planned_at c.args.events.now c.loop-i.i) short) c.in_ok-put_event.ensures.small);
    }

pub returns-in_err-put_event-clause-text : goal.returns-in_err-put_event-clause-text
returns-in_err-put_event-clause-text g c =
    let short : c.loop-i.i < length c.args.events.now = omega (arith, c.loop-i-test.true, c.len-i-end.ensures) in
    appended_in_copied (event_text c.args.net.now) c.args.events.now c.loop-i.i _ _ _ _ _ _ _ _ _ _ short c.loop-i.invariant.text c.in_err-put_event.ensures.text c.from_residual.ensures.0

pub returns-clause-text : goal.returns-clause-text
returns-clause-text g c = appended_items (event_text c.args.net.now) c.args.events.now c.loop-i.i _ _ (let far : length c.args.events.now ≤ c.loop-i.i = omega (arith, c.loop-i-test.false, c.len-i-end.ensures) in far) c.loop-i.invariant.text

pub returns-clause-small : goal.returns-clause-small
returns-clause-small g c =
    let far : length c.args.events.now ≤ c.loop-i.i = omega (arith, c.loop-i-test.false, c.len-i-end.ensures) in
    subst (λ (events : List PlannedEvent). All HasSmallAges events) (take_all c.loop-i.i c.args.events.now far) c.loop-i.invariant.small
