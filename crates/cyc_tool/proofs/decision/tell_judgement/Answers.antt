use Rattle.cyc_tool.proofs.Common.{IfOk-weaker, outcome_of}
use Rattle.commands.specs.Seen.{telling_seen}
use Rattle.cyc_tool.proofs.DecisionLemmas.{accepted_decides, refusal_decides}
use Rattle.cyc_tool.proofs.decision.tell_judgement.Goals as goal

pub tell_accepted_for-requires : goal.tell_accepted_for-requires
tell_accepted_for-requires c = let is = rw c.in-Accepted.is at c.requires in is.1

pub returns-in-Accepted : goal.returns-in-Accepted
returns-in-Accepted c =
    let p = c.args.problem.now in
    let is = rw c.in-Accepted.is at c.requires in
    IfOk-weaker c.tell_accepted_for.result _ _ (λ told accepted nodes.
    accepted_decides p.looped.net p.care p.limit p.observe (telling_seen c.args.telling) nodes (outcome_of told) c.laws.ensures.can.valid is.0 accepted)
    c.tell_accepted_for.ensures

pub new-refused-requires : goal.new-refused-requires
new-refused-requires c = rw c.in-Refused.is at c.requires

pub returns-in-Refused : goal.returns-in-Refused
returns-in-Refused c =
    let p = c.args.problem.now in
    IfOk-weaker c.tell_refused_for.result _ _ (λ told same nodes.
    refusal_decides p.looped.net p.care p.limit p.observe (telling_seen c.args.telling) nodes (outcome_of told) c.in-Refused.refusal (rw c.in-Refused.is at c.requires) same)
    (rw c.new-refused.ensures at c.tell_refused_for.ensures)
