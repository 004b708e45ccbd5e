use Rattle.std.proofs.Common.{suc, ap, ◌∙◌, arith}
use Rattle.std.proofs.lemmas.List.{take_all}
use Rattle.std.proofs.lemmas.Result.{IfOk-weaker}
use Rattle.flatten.proofs.Common.{longest_run_of, tildes, wire_names}
use Rattle.flatten.proofs.mark.mark.Goals as goal

pub returns : goal.returns
returns c =
    let all = take_all c.loop-model.model-index c.args.models.now (omega arith) in
    let longest = c.loop-model.invariant ∙ ap (λ ms. longest_run_of (wire_names ms)) all in
    IfOk-weaker c.mark_longer_than.result _ _ (λ mark is. is ∙ ap (λ k. tildes (suc k)) longest) c.mark_longer_than.ensures
