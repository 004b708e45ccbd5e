use Rattle.std.proofs.Common.{◌≡◌, [], List, ℕ, Option, subst}
use Rattle.std.specs.Prelude.{IfSome}
use Rattle.clause_pairs.proofs.Common.{IfOk-weaker, Problem, problem}
use Rattle.clause_pairs.specs.Pairs.{HaveNoModel, HoldsEach}
use Rattle.clause_pairs.proofs.UnitLemmas.{refuted-within}
use Rattle.clause_pairs.proofs.apart.ask_all.Goals as goal

pub returns : goal.returns
returns c =
    let old = c.args.asked.now in
    let new = c.add_units.new.formula in
    let each : HoldsEach old.cone.formula new old.assumed.items = subst (HoldsEach old.cone.formula new) c.deref.ensures.value c.in_ok-add_units.ensures in
    let same : c.in-Some.query ≡ problem new = subst (λ (o : Option Problem). IfSome o (λ query. query ≡ problem new)) c.in-Some.is c.in_ok-query.ensures in
    IfOk-weaker c.ask_pairs.result _ _ (λ refuted told h.
    refuted-within old.cone.formula new old.assumed.items old.pairs.items each
    (subst (HaveNoModel (problem new) []) c.deref-3.ensures.value (subst (λ (q : Problem). HaveNoModel q [] c.deref-3.result.now) same (told h))))
    c.ask_pairs.ensures
