use Rattle.std.proofs.Common.{arith}
use Rattle.clause_queries.proofs.BisectionLemmas.{open-end}
use Rattle.clause_queries.proofs.query.Query.bisect.Goals as goal

pub returns-clause-first : goal.returns-clause-first
returns-clause-first c = grind (arith, open-end c.args.self.now c.args.literals.now c.args.assumptions.now c.loop-interval.interval.low c.loop-interval.interval.high c.loop-interval.invariant.1 c.loop-interval-test.false)
