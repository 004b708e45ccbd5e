use Rattle.std.proofs.Common.{arith}
use Rattle.storm.proofs.PlanLemmas.{fix_is_fixed}
use Rattle.storm.proofs.planning.plan.Goals as goal

pub plan_of-requires : goal.plan_of-requires
plan_of-requires c = grind (arith, fix_is_fixed c.args.net.now c.args.v.now c.requires)

pub returns-then-any_shakes : goal.returns-then-any_shakes
returns-then-any_shakes c = grind arith

pub returns : goal.returns
returns c = grind arith
