use Rattle.cyc_tool.proofs.Common.{IfOk-weaker, outcome_of}
use Rattle.commands.specs.Seen.{making_seen}
use Rattle.cyc_tool.proofs.DecisionLemmas.{accepted_decides, refusal_decides}
use Rattle.cyc_tool.proofs.decision.tell_verdict.Goals as goal

pub new-accepted-requires : goal.new-accepted-requires
new-accepted-requires c = rw c.in-Accepted.is at c.requires

pub returns-in-Accepted : goal.returns-in-Accepted
returns-in-Accepted c =
    let p = c.args.problem.now in
    let acceptance = rw c.in-Accepted.is at c.requires in
    IfOk-weaker c.tell_acceptance.result _ _ (λ told accepted nodes.
    accepted_decides p.looped.net p.care p.limit p.observe (making_seen c.args.making) nodes (outcome_of told) c.new-accepted.ensures.can.valid acceptance.accepts accepted)
    (rw c.new-accepted.ensures.is at c.tell_acceptance.ensures)

pub new-refused-requires : goal.new-refused-requires
new-refused-requires c = rw c.in-Refused.is at c.requires

pub returns-in-Refused : goal.returns-in-Refused
returns-in-Refused c =
    let p = c.args.problem.now in
    IfOk-weaker c.tell_refusal.result _ _ (λ told same nodes.
    refusal_decides p.looped.net p.care p.limit p.observe (making_seen c.args.making) nodes (outcome_of told) c.in-Refused.refusal (rw c.in-Refused.is at c.requires) same)
    (rw c.new-refused.ensures at c.tell_refusal.ensures)
