use Rattle.unit_tests.proofs.ByClausesLemmas.{accepted_loads, all_loads}
use Rattle.unit_tests.proofs.by_clauses.leaving.Goals as goal

pub least_leaving-requires-clause-loads : goal.least_leaving-requires-clause-loads
least_leaving-requires-clause-loads c = all_loads c.args.net.now c.args.care.now c.args.scope.now c.requires.all

pub least_leaving-requires-clause-known : goal.least_leaving-requires-clause-known
least_leaving-requires-clause-known c =
    accepted_loads c.args.net.now c.args.care.now c.none.result c.none.ensures.assume c.none.ensures.invariant (c.in_ok-accepted.ensures c.if-not-branch.false)
