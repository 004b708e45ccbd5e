use Rattle.std.proofs.Common.{◌∙◌}
use Rattle.std.proofs.lemmas.Result.{IfOk-weaker}
use Rattle.case_search.proofs.ShownLemmas.{have-none}
use Rattle.case_search.proofs.asking.is_ruled_out.Goals as goal

pub returns-clause-out : goal.returns-clause-out
returns-clause-out c =
    IfOk-weaker c.rules_out.result _ _ (λ out told h. have-none c.args.questions.now c.args.values.now c.deref.result.now (c.deref.ensures.value ∙ c.in_ok-cube.ensures) (told h)) c.rules_out.ensures.out
