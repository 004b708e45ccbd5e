use Rattle.cyc_tool.proofs.Common.{IfOk-weaker, cells_seen, outcome_of}
use Rattle.cyc_tool.proofs.DecisionLemmas.{demonstrated}
use Rattle.cyc_tool.proofs.decision.demonstrate.Goals as goal

pub returns : goal.returns
returns c =
    let a = c.args.accepted.now in
    IfOk-weaker c.tell_ring.result _ _ (λ told is.
    demonstrated a.problem.looped.net a.problem.care a.problem.limit a.problem.observe (cells_seen c.args.cells) c.in_ok-rewritten.rewritten (outcome_of told)
    (rw (c.looped.ensures.looped, c.problem-problem.ensures.problem) at is) c.in_ok-rewritten.ensures)
    c.tell_ring.ensures
