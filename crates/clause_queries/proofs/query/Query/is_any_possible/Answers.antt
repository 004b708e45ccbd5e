use Rattle.std.proofs.Common.{◌∙◌, ◌∷◌, [], ◌++◌, get_or, subst, sym, true≢false}
use Rattle.std.proofs.lemmas.List.{take_all}
use Rattle.std.proofs.lemmas.List.Elements.{All-more, All-same}
use Rattle.clause_queries.specs.Queries.{HasNoModelUnder, IsReply}
use Rattle.clause_queries.proofs.query.Query.is_any_possible.Goals as goal
use Rattle.clause_queries.proofs.query.Query.is_any_possible.Goals.{in-NoModel, in-Unknown}

pub loop-literal-preserved : goal.loop-literal-preserved
loop-literal-preserved c =
    let p = c.args.self.now in
    let assumptions = c.args.assumptions.now in
    let literals = c.args.literals.now in
    let place = c.loop-literal.literal-index in
    let literal = get_or literals place 0 in
    let same = c.loop-literal.invariant.0 in (
      c.in_ok-ask_with.ensures.unchanged ∙ same,
      λ refuted. elim c.match-branch-2.branch [
        | in-NoModel w ↦
            All-more (λ k. HasNoModelUnder p (assumptions ++ k ∷ [])) literals place 0 c.loop-literal-test.true (c.loop-literal.invariant.1 (sym w.refuted-is ∙ refuted))
            (subst (λ q. HasNoModelUnder q (assumptions ++ literal ∷ [])) same
            (subst (IsReply c.loop-literal.self (assumptions ++ literal ∷ [])) w.in-NoModel.is c.in_ok-ask_with.ensures.reply))
        | in-Unknown w ↦ absurd (true≢false (sym refuted ∙ w.refuted-is))
      ],
    )

pub returns-then-refuted-clause-any : goal.returns-then-refuted-clause-any
returns-then-refuted-clause-any c =
    All-same (λ k. HasNoModelUnder c.args.self.now (c.args.assumptions.now ++ k ∷ [])) c.args.literals.now _
    (sym (take_all c.loop-literal.literal-index c.args.literals.now c.loop-literal-test.false)) (c.loop-literal.invariant.1 c.if-refuted.true)
