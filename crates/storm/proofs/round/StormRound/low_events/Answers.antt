use Rattle.std.proofs.Common.{arith}
use Rattle.storm.proofs.PlanLemmas.{low_count, low_more}
use Rattle.storm.proofs.round.StormRound.low_events.Goals as goal

pub push_event-requires-clause-small : goal.push_event-requires-clause-small
push_event-requires-clause-small c = grind (arith, low_count c.args.self.now.net.now c.args.self.now.plan.now c.args.self.now.back c.loop-gate.gate)

pub loop-gate-preserved : goal.loop-gate-preserved
loop-gate-preserved c = grind (arith, low_more c.args.self.now.net.now c.args.self.now.plan.now c.args.self.now.back c.loop-gate.gate c.loop-gate.events _ _ c.in_ok-push_event.ensures)
