use Rattle.cyc_tool.proofs.Common.{IfOk-weaker}
use Rattle.commands.specs.Seen.{telling_seen}
use Rattle.cyc_tool.proofs.DecisionLemmas.{limit_decides}
use Rattle.cyc_tool.proofs.decision.tell_judged.Goals as goal

pub tell_judgement-requires : goal.tell_judgement-requires
tell_judgement-requires c = rw c.in-Ok.is at c.judge-judged.ensures.judgement

pub returns-in-Ok : goal.returns-in-Ok
returns-in-Ok c = IfOk-weaker c.tell_judgement.result _ _ (λ told decided. decided c.judge-judged.new.d) c.tell_judgement.ensures

pub returns : goal.returns
returns c =
    let p = c.args.problem.now in
    let judged = c.judge-judged in
    IfOk-weaker c.tell_limited.result _ _ (λ told same.
    limit_decides p.looped.net p.care p.limit p.observe (telling_seen c.args.telling) judged.new.d told
    judged.result c.in-Err.fault c.in-Err.is same judged.ensures.fault judged.ensures.cause judged.ensures.enough)
    c.tell_limited.ensures
