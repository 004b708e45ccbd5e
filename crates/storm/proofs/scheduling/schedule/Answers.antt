use Rattle.std.proofs.Common.{arith}
use Rattle.storm.specs.Storms.{storm_events}
use Rattle.storm.proofs.PlanLemmas.{length-shaking, fits_round, plan_is, not_over}
use Rattle.storm.proofs.scheduling.schedule.Goals as goal

pub count_shaking-shaking-requires : goal.count_shaking-shaking-requires
count_shaking-shaking-requires c = grind (arith, length-shaking c.args.net.now c.args.v.now c.args.plan.now c.requires.plan)

pub storm_of_plan-requires-clause-fits : goal.storm_of_plan-requires-clause-fits
storm_of_plan-requires-clause-fits c =
    grind (arith, fits_round c.args.net.now c.args.v.now c.args.plan.now c.requires.plan c.args.rounds c.requires.rounds, not_over (storm_events c.args.net.now c.args.plan.now c.args.rounds) c.saturating_mul-events.result)

pub returns-clause-plays : goal.returns-clause-plays
returns-clause-plays c = grind (arith, plan_is c.args.net.now c.args.v.now c.args.plan.now c.requires.plan)
