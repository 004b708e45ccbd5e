use Rattle.std.proofs.Common.{◌∙◌, length, ap, arith}
use Rattle.delay_core.proofs.Common.{PlayState}
use Rattle.delay_core.proofs.FairLemmas.{count_more}
use Rattle.delay_core.proofs.PlanLemmas.{fault_left, plans_left, changes_left, all_rounds_changed}
use Rattle.delay_core.proofs.whole.play_rounds.Goals as goal

pub play_round-requires : goal.play_round-requires
play_round-requires c = omega (arith, c.loop-round.invariant.starts, c.loop-round.invariant.few, c.loop-round-test.true)

pub loop-round-preserved : goal.loop-round-preserved
loop-round-preserved c =
    let start = c.args.play.now.state in
    let now = c.loop-round.play.state in
    let rounds = c.args.rounds.now in
    let i = c.loop-round.round-index in
    let played = c.in_ok-play_round.ensures.played in
    let starts = ap (λ (p : PlayState). length p.starts) played ∙ count_more now c.round-item.result in
    record {
      starts = omega (arith, starts, c.loop-round.invariant.starts);
      few = c.loop-round.invariant.few;
      fault = fault_left start now _ rounds i _ c.loop-round-test.true c.round-item.is played c.in_ok-play_round.ensures.none c.loop-round.invariant.fault;
      after = plans_left start now _ rounds i _ c.loop-round-test.true c.round-item.is played c.loop-round.invariant.after;
      changed = changes_left start now _ rounds i _ c.loop-round-test.true c.round-item.is played c.args.log.now c.loop-round.log c.play_round.new.log
          c.in_ok-play_round.ensures.changed c.loop-round.invariant.changed;
    }

pub returns-clause-changed : goal.returns-clause-changed
returns-clause-changed c = grind (arith, all_rounds_changed c.args.play.now.state c.loop-round.play.state c.args.rounds.now c.loop-round.round-index c.args.log.now c.loop-round.log)
