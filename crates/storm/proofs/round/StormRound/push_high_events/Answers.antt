use Rattle.std.proofs.Common.{arith}
use Rattle.storm.proofs.PlanLemmas.{high_count, high_more}
use Rattle.storm.proofs.round.StormRound.push_high_events.Goals as goal

pub push_high_event-requires-clause-small : goal.push_high_event-requires-clause-small
push_high_event-requires-clause-small c = grind (arith, high_count c.args.self.now.net.now c.args.self.now.plan.now c.args.self.now.back c.loop-gate.gate c.args.events.now c.loop-gate.events c.loop-gate.invariant)

pub loop-gate-preserved : goal.loop-gate-preserved
loop-gate-preserved c = grind (arith, high_more c.args.self.now.net.now c.args.self.now.plan.now c.args.self.now.back c.loop-gate.gate c.args.events.now c.loop-gate.events _ c.in_ok-push_high_event.ensures c.loop-gate.invariant)
