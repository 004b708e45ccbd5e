use Rattle.cyc_tool.proofs.Common.{IfOk-weaker}
use Rattle.cyc_tool.proofs.DecisionLemmas.{was_split}
use Rattle.cyc_tool.proofs.split.tell_split.Goals as goal

pub returns : goal.returns
returns c =
    let p = c.args.accepted.now.problem in
    let made = c.make_loop_free_by-rewriting in
    IfOk-weaker c.tell_rewriting.result _ _ (λ told same.
    was_split p.looped.net p.care p.limit p.observe c.args.cases.number made.result told same made.ensures.form made.ensures.fault)
    c.tell_rewriting.ensures
