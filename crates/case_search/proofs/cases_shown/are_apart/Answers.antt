use Rattle.std.proofs.Common.{◌∙◌}
use Rattle.std.proofs.lemmas.Result.{IfOk-weaker}
use Rattle.case_search.proofs.ShownLemmas.{apart-both}
use Rattle.case_search.proofs.cases_shown.are_apart.Goals as goal

pub returns-clause-apart : goal.returns-clause-apart
returns-clause-apart c =
    IfOk-weaker c.is_ruled_out.result _ _ (λ out told h. apart-both c.args.questions.now c.args.cube.now c.args.other.now c.deref.result.now (c.deref.ensures.value ∙ c.in_ok-both.ensures) (told h)) c.is_ruled_out.ensures.out
