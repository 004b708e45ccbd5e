use Rattle.std.proofs.Common.{refl, arith}
use Rattle.std.specs.Prelude.{OnOk}
use Rattle.std.specs.declared.result.Result.{Result}
use Rattle.sched_text.proofs.SaidLemmas.{reads_back}
use Rattle.sched_text.proofs.Common.{appended_then, appended_cut, appended_equal}
use Rattle.sched_text.proofs.WrittenTexts.{written_is}
use Rattle.sched_text.proofs.written.put_schedule.Goals as goal

pub returns-in_err-put_head-clause-text : goal.returns-in_err-put_head-clause-text
returns-in_err-put_head-clause-text g c = appended_equal _ _ _ _ (written_is c.args.net.now c.args.schedule.now) (appended_cut _ _ _ _ _ c.in_err-put_head.ensures.text c.from_residual.ensures.0)

pub returns-clause-text : goal.returns-clause-text
returns-clause-text g c = appended_equal _ _ _ _ (written_is c.args.net.now c.args.schedule.now) (rw (← c.items.ensures) (appended_then _ _ _ _ _ _ _ _ _ _ c.in_ok-put_head.ensures.text c.put_ticks.ensures.text))

on_ok : {T E P Q : Type 0} (r : Result T E) → (P → Q) → OnOk r P → OnOk r Q
on_ok r f p = grind arith

pub returns-clause-reads_back : goal.returns-clause-reads_back
returns-clause-reads_back g c =
    on_ok c.put_ticks.result (λ small start.
    reads_back c.args.net.now c.args.schedule.now c.count-signals.ensures.valid
    (record {
      past = c.requires.past;
      latches = c.requires.latches;
      gates = c.requires.gates;
      as_many = refl;
      events = c.requires.events;
      start = start;
    })
    (record { window = c.in_ok-put_head.ensures.small; ages = small }))
    (rw c.items.ensures at c.put_ticks.ensures.small)
