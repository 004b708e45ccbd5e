use Rattle.std.proofs.Common.{◌≡◌, ◌-◌}
use Rattle.clause_queries.specs.Bisection.{IsOpen}
use Rattle.clause_queries.proofs.query.Query.bisect.Given as goal

abbrev pub invariant-loop-interval : goal.invariant-loop-interval
invariant-loop-interval l = (l.self ≡ l.fn.self) × IsOpen l.fn.self l.literals l.assumptions l.interval.low l.interval.high

abbrev pub decreases-loop-interval : goal.decreases-loop-interval
decreases-loop-interval l = l.interval.high - l.interval.low
