use Rattle.std.proofs.Common.{◌∷◌, [], ◌++◌, ◌∙◌, get_or, subst, sym, take}
use Rattle.std.proofs.lemmas.List.{take_more, take_all}
use Rattle.clause_queries.specs.Clauses.{IsWithin}
use Rattle.clause_queries.specs.Queries.{Problem, IsModelUnder}
use Rattle.clause_queries.specs.Descent.{IsFixed}
use Rattle.clause_queries.proofs.DescentLemmas.{fixed-again}
use Rattle.clause_queries.proofs.query.Query.fix_columns.Goals as goal

pub loop-place-preserved : goal.loop-place-preserved
loop-place-preserved c =
    let p = c.args.self.now in
    let columns = c.args.columns.now in
    let place = c.loop-place.place in
    let column = get_or columns place 0 in
    let before = c.loop-place.invariant.0 in
    let between = c.in_ok-rest.ensures.unchanged ∙ before in
    let old_fixed = c.loop-place.fixed.items in
    let old_model = c.loop-place.model.items in
    let lower = c.lower.new.model.items in
    let fixed = c.fix_column.new.fixed.items in
    let model = c.fix_column.new.model.items in (
      c.in_ok-fix_column.ensures.unchanged ∙ between,
      subst (λ (q : Problem). IsWithin q.variables fixed) between c.in_ok-fix_column.ensures.within,
      λ assumptions start.
          let is = c.loop-place.invariant.2 assumptions start in
          let seen = subst (λ (q : Problem). IsModelUnder q c.deref.result.now old_model) (sym before) (subst (λ assumed. IsModelUnder p assumed old_model) (sym c.deref.ensures.value) is.under) in
          let found = subst (λ (q : Problem). IsModelUnder q c.deref.result.now lower) before (c.in_ok-rest.ensures.model seen) in
          let again = fixed-again p assumptions (take place columns) old_fixed old_model lower is (subst (λ assumed. IsModelUnder p assumed lower) c.deref.ensures.value found) in
          subst (λ cs. IsFixed p assumptions cs fixed model) (sym (take_more columns place 0 c.loop-place-test.true))
          (subst (λ q. IsFixed q assumptions (take place columns ++ column ∷ []) fixed model) between
          (c.in_ok-fix_column.ensures.fixed c.if-not-branch.false assumptions (take place columns)
          (subst (λ q. IsFixed q assumptions (take place columns) old_fixed lower) (sym between) again))),
    )

pub returns-clause-fixed : goal.returns-clause-fixed
returns-clause-fixed c = λ _ assumptions start.
    subst (λ cs. IsFixed c.args.self.now assumptions cs c.loop-place.fixed.items c.loop-place.model.items)
    (take_all c.loop-place.place c.args.columns.now c.loop-place-test.false) (c.loop-place.invariant.2 assumptions start)
