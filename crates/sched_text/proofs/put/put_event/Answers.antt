use Rattle.sched_text.proofs.Common.{appended_then, appended_cut, appended_equal}
use Rattle.delay_core.specs.EventLists.{planned_at}
use Rattle.sched_text.proofs.WrittenTexts.{event_is}
use Rattle.sched_text.proofs.put.put_event.Goals as goal

pub returns-in_err-put_two-clause-text : goal.returns-in_err-put_two-clause-text
returns-in_err-put_two-clause-text g c = appended_equal _ _ _ _ (event_is c.args.net.now (planned_at c.args.events.now c.args.i)) (rw (← c.gate.ensures, ← c.gate-gate.ensures.at, ← c.bytes.ensures) (appended_cut _ _ _ _ _ c.in_err-put_two.ensures c.from_residual.ensures.0))

pub returns-in_err-put_ages-clause-text : goal.returns-in_err-put_ages-clause-text
returns-in_err-put_ages-clause-text g c = appended_equal _ _ _ _ (event_is c.args.net.now (planned_at c.args.events.now c.args.i)) (rw (← c.gate.ensures, ← c.gate-gate.ensures.at, ← c.bytes.ensures, ← c.ages.ensures) (appended_then _ _ _ _ _ _ _ _ _ _ c.in_ok-put_two.ensures (appended_cut _ _ _ _ _ c.in_err-put_ages.ensures.text c.from_residual-in_err-put_ages.ensures.0)))

pub returns-clause-text : goal.returns-clause-text
returns-clause-text g c = appended_equal _ _ _ _ (event_is c.args.net.now (planned_at c.args.events.now c.args.i)) (rw (← c.gate.ensures, ← c.gate-gate.ensures.at, ← c.bytes.ensures, ← c.ages.ensures) (appended_then _ _ _ _ _ _ _ _ _ _ c.in_ok-put_two.ensures (appended_then _ _ _ _ _ _ _ _ _ _ c.in_ok-put_ages.ensures.text c.write_whole.ensures)))
