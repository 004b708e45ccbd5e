use Rattle.cyc_tool.proofs.Common.{IfOk-weaker, outcome_of}
use Rattle.cyc_tool.proofs.DecisionLemmas.{judged, without_storm}
use Rattle.cyc_tool.proofs.decision.tell_accepted_for.Goals as goal

pub returns-in-Judge : goal.returns-in-Judge
returns-in-Judge c =
    let p = c.args.problem.now in
    let number = rw c.observe.ensures.observe at c.loose_told-number.ensures in
    IfOk-weaker c.tell_accepted.result _ _ (λ told is.
    rw c.in-Judge.is (judged p.looped.net p.care p.limit p.observe c.args.loose _ (outcome_of told) is number c.requires))
    (rw c.looped-looped.ensures.looped at c.tell_accepted.ensures)

pub returns-in-Storm : goal.returns-in-Storm
returns-in-Storm c =
    let p = c.args.problem.now in
    let number = rw c.observe.ensures.observe at c.loose_told-number.ensures in
    IfOk-weaker c.tell_no_storm.result _ _ (λ told is.
    rw c.in-Storm.is (without_storm p.looped.net p.care p.limit p.observe c.args.loose _ _ (outcome_of told) is number c.requires))
    (rw c.looped-looped.ensures.looped at c.tell_no_storm.ensures)
