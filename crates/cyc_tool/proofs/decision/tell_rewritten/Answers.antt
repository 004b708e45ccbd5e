use Rattle.cyc_tool.proofs.Common.{IfOk-weaker}
use Rattle.cyc_tool.proofs.DecisionLemmas.{was_rewritten}
use Rattle.cyc_tool.proofs.decision.tell_rewritten.Goals as goal

pub returns : goal.returns
returns c =
    let p = c.args.accepted.now.problem in
    let made = c.make_loop_free-rewriting in
    IfOk-weaker c.tell_rewriting.result _ _ (λ told same.
    was_rewritten p.looped.net p.care p.limit p.observe made.result told same made.ensures.rewriting made.ensures.small made.ensures.fault)
    c.tell_rewriting.ensures
