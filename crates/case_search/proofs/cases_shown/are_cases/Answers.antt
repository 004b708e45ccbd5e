use Rattle.std.proofs.Common.{◌∙◌, subst, arith}
use Rattle.std.proofs.lemmas.Result.{IfOk-weaker}
use Rattle.clause_pairs.specs.Cubes.{LeaveNoneOut}
use Rattle.case_search.proofs.ShownLemmas.{cubes-usable, in-one-case}
use Rattle.case_search.proofs.cases_shown.are_cases.Goals as goal

pub leave_none_out-requires-clause-columns : goal.leave_none_out-requires-clause-columns
leave_none_out-requires-clause-columns c = cubes-usable c.args.net.now c.args.cases.now c.deref.result.now (c.deref.ensures.value ∙ c.in_ok-cubes.ensures) (c.are_usable.ensures c.if-not-are_usable.false)

pub returns-clause-usable : goal.returns-clause-usable
returns-clause-usable c = IfOk-weaker c.leave_none_out.result _ _ (λ none told h. c.are_usable.ensures c.if-not-are_usable.false) c.leave_none_out.ensures

pub returns-clause-few : goal.returns-clause-few
returns-clause-few c = IfOk-weaker c.leave_none_out.result _ _ (λ none told h. let few = c.if-cases-gt-MOST_CASES.false in omega arith) c.leave_none_out.ensures

pub returns-clause-cases : goal.returns-clause-cases
returns-clause-cases c =
    let net = c.args.net.now in
    let care = c.args.care.now in
    IfOk-weaker c.leave_none_out.result _ _ (λ none told h v counts.
    in-one-case net care c.args.cases.now (c.are_usable.ensures c.if-not-are_usable.false) (c.in_ok-are_shown.ensures.shown c.if-not-branch.false net care c.requires.asks)
    (subst (LeaveNoneOut net care) (c.deref.ensures.value ∙ c.in_ok-cubes.ensures) (told h)) v counts)
    c.leave_none_out.ensures
