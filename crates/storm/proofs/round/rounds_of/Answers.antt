use Rattle.std.proofs.Common.{arith, ap, sym, ◌∙◌}
use Rattle.storm.specs.Storms.{storm_round, nth_round}
use Rattle.storm.proofs.PlanLemmas.{one_more, few_back}
use Rattle.storm.proofs.round.rounds_of.Goals as goal

pub round_plan-requires-clause-back : goal.round_plan-requires-clause-back
round_plan-requires-clause-back c =
    let is = c.zeros_back-back.ensures c.args.plan.now (sym c.requires.shaking) in
    let few = few_back c.args.net.now c.args.plan.now c.loop-round.round c.requires.fits in
    omega arith

pub loop-round-preserved : goal.loop-round-preserved
loop-round-preserved c =
    record {
      list = one_more (nth_round c.args.net.now c.args.plan.now) c.loop-round.round c.loop-round.list.items _ _ c.push_reserved.ensures.items c.loop-round.invariant.list
          (c.in_ok-round_plan.ensures ∙ ap (storm_round c.args.net.now c.args.plan.now) (c.zeros_back-back.ensures c.args.plan.now (sym c.requires.shaking)));
      len = omega arith;
      room = omega arith;
    }
