use Rattle.std.proofs.Common.{arith}
use Rattle.storm.specs.Plans.{pin_values}
use Rattle.storm.proofs.PlanLemmas.{one_more}
use Rattle.storm.proofs.planning.all_pin_values.Goals as goal

pub loop-number-preserved : goal.loop-number-preserved
loop-number-preserved c = grind (arith, one_more (pin_values c.args.net.now c.args.values.now c.args.wanted) c.loop-number.number c.loop-number.list.items _ _ c.push_reserved.ensures.items c.loop-number.invariant.list c.in_ok-pin_values_of.ensures)
