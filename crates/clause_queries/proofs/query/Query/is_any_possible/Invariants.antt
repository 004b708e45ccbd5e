use Rattle.std.proofs.Common.{◌≡◌, ◌∷◌, [], ◌++◌, true, take}
use Rattle.std.specs.List.{All}
use Rattle.clause_queries.specs.Queries.{HasNoModelUnder}
use Rattle.clause_queries.proofs.query.Query.is_any_possible.Given as goal

abbrev pub invariant-loop-literal : goal.invariant-loop-literal
invariant-loop-literal l =
    (l.self ≡ l.fn.self) × (l.refuted ≡ true → All (λ k. HasNoModelUnder l.fn.self (l.assumptions ++ k ∷ [])) (take l.literal-index l.literals))
