use Rattle.std.proofs.Common.{arith, subst, List}
use Rattle.std.specs.Prelude.{All}
use Rattle.sched_text.proofs.Common.{RoundPlan, All-more, round_text, AreSmall, appended_none, appended_item, appended_in_item, appended_items}
use Rattle.std.proofs.lemmas.List.{take_all}
use Rattle.sched_text.proofs.put.put_rounds.Goals as goal

pub loop-round-init : goal.loop-round-init
loop-round-init g c = record { text = appended_none _ _ _; small = λ k d inside. absurd (omega (arith, inside)) }

pub loop-round-preserved : goal.loop-round-preserved
loop-round-preserved g c = record {
  text = appended_item (round_text c.args.net.now) c.args.rounds.now c.loop-round.round-index c.round-item.result _ _ _ _ _ _ _ _ (omega arith) c.round-item.is c.loop-round.invariant.text c.in_ok-put_round.ensures.text;
  small = let P = λ (r : RoundPlan). AreSmall r in All-more P c.args.rounds.now c.loop-round.round-index c.round-item.result (omega arith) c.loop-round.invariant.small (subst P c.round-item.is c.in_ok-put_round.ensures.small);
}

pub returns-in_err-put_round-clause-text : goal.returns-in_err-put_round-clause-text
returns-in_err-put_round-clause-text g c = appended_in_item (round_text c.args.net.now) c.args.rounds.now c.loop-round.round-index c.round-item.result _ _ _ _ _ _ _ _ _ (omega arith) c.round-item.is c.loop-round.invariant.text c.in_err-put_round.ensures.text c.from_residual.ensures.0

pub returns-clause-text : goal.returns-clause-text
returns-clause-text g c = appended_items (round_text c.args.net.now) c.args.rounds.now c.loop-round.round-index _ _ (omega arith) c.loop-round.invariant.text

pub returns-clause-small : goal.returns-clause-small
returns-clause-small g c = subst (λ (rounds : List RoundPlan). All AreSmall rounds) (take_all c.loop-round.round-index c.args.rounds.now (omega arith)) c.loop-round.invariant.small
