use Rattle.std.proofs.Common.{◌≡◌, ℕ, List, [], ◌∷◌, Option, subst}
use Rattle.std.specs.Prelude.{IfSome}
use Rattle.clause_decision.proofs.Common.{IfOk-weaker, Problem, problem}
use Rattle.clause_queries.specs.Queries.{IsFirst}
use Rattle.clause_decision.proofs.UnknownLemmas.{first-unknown}
use Rattle.clause_decision.proofs.unknown.ask_first.Goals as goal

pub returns : goal.returns
returns c = λ net care marks gates told within marked.
    let asked = c.args.asked.now in
    let f = asked.cone.formula in
    let assumptions = asked.cone.inside ∷ asked.cone.allowed ∷ [] in
    let same : c.in-Some.query ≡ problem f = subst (λ (o : Option Problem). IfSome o (λ query. query ≡ problem f)) c.in-Some.is c.in_ok-query.ensures in
    IfOk-weaker c.first_possible.result _ _ (λ first is.
    first-unknown net care marks f asked.cone.rails.items asked.cone.inside asked.cone.allowed gates asked.sums.items told within marked first
    (subst (λ (literals : List ℕ). IsFirst (problem f) literals assumptions first) c.deref.ensures.value
    (subst (λ (p : Problem). IsFirst p c.deref.result.now assumptions first) same is)))
    c.first_possible.ensures.first
