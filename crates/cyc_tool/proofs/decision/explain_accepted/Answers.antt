use Rattle.cyc_tool.proofs.Common.{IfOk-weaker, outcome_of}
use Rattle.cyc_tool.proofs.DecisionLemmas.{loops_told}
use Rattle.cyc_tool.proofs.decision.explain_accepted.Goals as goal

pub returns : goal.returns
returns c =
    let a = c.args.accepted.now in
    let is = c.counted-counted.ensures.was.is in
    let number = rw (c.observe.ensures.observe, c.problem-problem.ensures.problem, c.loose.ensures.loose) at c.loose_told-number.ensures in
    IfOk-weaker c.tell_loops_explained.result _ _ (λ told same.
    loops_told c.args.form a.problem.looped.net a.problem.care a.problem.limit a.problem.observe a.loose _ (outcome_of told) (same a.problem.care is.sweeps) number is.loose_is)
    (rw c.counted-counted.ensures.counted at c.tell_loops_explained.ensures)
