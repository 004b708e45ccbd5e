use Rattle.std.proofs.Common.{◌≡◌, ◌<◌, ◌+◌, ◌-◌, ◌∷◌, [], ℕ, Bool, true, List, length, get_or, sym, subst, arith}
use Rattle.std.specs.List.{All}
use Rattle.clause_decision.proofs.Common.{IfOk-weaker, get_or_default, problem, Parts, CareSet, is_marked, IsModelUnder, HasNoModelUnder}
use Rattle.clause_queries.specs.Queries.{IsReply}
use Rattle.clause_queries.specs.declared.query.Reply.TheVariants as replies
use Rattle.clause_decision.specs.Unknowns.{TellUnknowns}
use Rattle.clause_decision.specs.Witnesses.{IsFirstTrueIn, TellsWitness}
use Rattle.clause_decision.specs.declared.unknown.Unknowns.{Unknowns}
use Rattle.clause_decision.specs.declared.witness.Witness.{Witness}
use Rattle.clause_decision.specs.declared.witness.Witness.TheVariants as witnesses
use Rattle.clause_decision.proofs.UnknownLemmas.{witness-read, none-witnessed}
use Rattle.clause_decision.proofs.witness.ask_some.Goals as goal

-- a witness that is read off a model
read-off : (net : Parts) (u : Unknowns) (care : CareSet) (marks : List Bool) (gates : List ℕ) (m : List Bool) (last : ℕ) →
    TellUnknowns net care marks u.cone.formula u.cone.rails.items u.cone.inside u.cone.allowed gates u.sums.items → All (λ n. n < length net.gates) gates → All (λ n. is_marked marks n ≡ true) gates →
    IsModelUnder (problem u.cone.formula) (u.cone.inside ∷ u.cone.allowed ∷ get_or u.sums.items last 0 ∷ []) m → (w : Witness) → IsFirstTrueIn net u m w → TellsWitness net care gates w
read-off net u care marks gates m last told within marked under (witnesses.Found vector place) is =
    witness-read net care marks u.cone.formula u.cone.rails.items u.cone.inside u.cone.allowed gates u.sums.items told within marked m vector.items last place under is.vector_is is.within is.is_true is.before
read-off net u care marks gates m last told within marked under witnesses.Nowhere is = absurd is
read-off net u care marks gates m last told within marked under witnesses.Unknown is = absurd is

pub returns-in-Model : goal.returns-in-Model
returns-in-Model c care marks gates told within marked =
    let u = c.args.asked.now in
    let last = length u.sums.items - 1 in
    let sum : c.index.result.now ≡ get_or u.sums.items last 0 = grind (arith, get_or_default u.sums.items last 0 c.index.result.now) in
    let reply : IsReply (problem u.cone.formula) (u.cone.inside ∷ u.cone.allowed ∷ c.index.result.now ∷ []) (replies.Model c.in-Model.model) = rw c.in-Model.is at c.in_ok-model.ensures in
    let under : IsModelUnder (problem u.cone.formula) (u.cone.inside ∷ u.cone.allowed ∷ get_or u.sums.items last 0 ∷ []) c.in-Model.model.items =
    subst (λ l. IsModelUnder (problem u.cone.formula) (u.cone.inside ∷ u.cone.allowed ∷ l ∷ []) c.in-Model.model.items) sum reply.0 in
    IfOk-weaker c.witness_in.result _ _
    (λ w is. read-off c.args.net.now u care marks gates c.deref.result.now last told within marked
    (subst (λ (bits : List Bool). IsModelUnder (problem u.cone.formula) (u.cone.inside ∷ u.cone.allowed ∷ get_or u.sums.items last 0 ∷ []) bits) (sym c.deref.ensures.value) under) w is)
    c.witness_in.ensures

pub returns-in-NoModel : goal.returns-in-NoModel
returns-in-NoModel c care marks gates told within marked =
    let u = c.args.asked.now in
    let last = length u.sums.items - 1 in
    let sum : c.index.result.now ≡ get_or u.sums.items last 0 = grind (arith, get_or_default u.sums.items last 0 c.index.result.now) in
    let whole : last + 1 ≡ length u.sums.items = grind arith in
    let none : HasNoModelUnder (problem u.cone.formula) (u.cone.inside ∷ u.cone.allowed ∷ c.index.result.now ∷ []) = rw c.in-NoModel.is at c.in_ok-model.ensures in
    none-witnessed c.args.net.now care marks u.cone.formula u.cone.rails.items u.cone.inside u.cone.allowed gates u.sums.items told within marked last whole
    (subst (λ l. HasNoModelUnder (problem u.cone.formula) (u.cone.inside ∷ u.cone.allowed ∷ l ∷ [])) sum none)
