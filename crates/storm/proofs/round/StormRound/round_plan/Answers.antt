use Rattle.std.proofs.Common.{length, arith}
use Rattle.storm.proofs.PlanLemmas.{low_count, both_halves}
use Rattle.storm.proofs.round.StormRound.round_plan.Goals as goal

pub push_high_events-requires-clause-first : goal.push_high_events-requires-clause-first
push_high_events-requires-clause-first c = grind (arith, low_count c.args.self.now.net.now c.args.self.now.plan.now c.args.self.now.back (length c.args.self.now.net.now.gates))

pub returns : goal.returns
returns c = grind (arith, both_halves c.args.self.now.net.now c.args.self.now.plan.now c.args.self.now.back c.in_ok-events.events c.shrink.new.self c.in_ok-events.ensures)
