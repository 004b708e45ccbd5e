use Rattle.std.proofs.Common.{◌≡◌, length, subst, arith}
use Rattle.clause_queries.specs.Each.{AreToldBelow}
use Rattle.clause_queries.proofs.query.Query.possible_each.Goals as goal

pub returns-clause-each : goal.returns-clause-each
returns-clause-each c =
    let end : c.loop-place.place ≡ length c.args.literals.now = let t = c.loop-place-test.false in let a = c.loop-place.auto.place-end in omega (arith, t, a) in
    subst (λ k. AreToldBelow c.args.self.now c.args.literals.now c.args.assumptions.now k c.loop-place.found.items) end c.loop-place.invariant.1
