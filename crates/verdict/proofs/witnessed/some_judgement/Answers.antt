use Rattle.std.proofs.lemmas.Option.{IfSome_then}
use Rattle.verdict.proofs.Common.{IfOk-weaker}
use Rattle.verdict.proofs.WitnessLemmas.{exact_judgement}
use Rattle.verdict.proofs.witnessed.some_judgement.Goals as goal

pub returns-in-Determined : goal.returns-in-Determined
returns-in-Determined c =
    let s = c.args.question.now in
    IfOk-weaker c.judge_by_invariance.result _ _
    (λ found is. IfSome_then found is (λ judgement told. exact_judgement s.net s.care c.args.question.now.what judgement c.laws.ensures.is.net told))
    c.judge_by_invariance.ensures
