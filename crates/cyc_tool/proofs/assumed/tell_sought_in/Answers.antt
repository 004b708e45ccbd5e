use Rattle.cyc_tool.proofs.Common.{IfOk-weaker}
use Rattle.cyc_tool.proofs.AssumedLemmas.{assumption_fits, found_seeks, limit_seeks}
use Rattle.cyc_tool.specs.Problems.{decision_in}
use Rattle.cyc_tool.proofs.assumed.tell_sought_in.Goals as goal

pub tell_assumption-requires-clause-care : goal.tell_assumption-requires-clause-care
tell_assumption-requires-clause-care c =
    rw (c.net.ensures.net, c.looped-looped.ensures.looped, c.care-care.ensures.care) c.looped-looped.ensures.can.care

pub tell_assumption-requires-clause-fits : goal.tell_assumption-requires-clause-fits
tell_assumption-requires-clause-fits c =
    let p = c.args.problem.now in
    rw (c.net.ensures.net, c.looped-looped.ensures.looped)
    (assumption_fits p.looped.net p.care p.observe c.in-Ok.answer c.looped-looped.ensures.can.valid (rw c.in-Ok.is at c.weakest_assumption-found.ensures.found))

pub returns-in-Ok : goal.returns-in-Ok
returns-in-Ok c =
    let p = c.args.problem.now in
    let told = rw (c.net.ensures.net, c.looped-looped.ensures.looped, c.care-care.ensures.care) at c.tell_assumption.ensures in
    found_seeks (decision_in p) c.weakest_assumption-found.new.d c.in-Ok.answer c.tell_assumption.result
    (rw c.in-Ok.is at c.weakest_assumption-found.ensures.found) told.told told.written

pub returns : goal.returns
returns c =
    let found = c.weakest_assumption-found in
    IfOk-weaker c.tell_limited.result _ _ (λ told same.
    limit_seeks (decision_in c.args.problem.now) found.new.d told found.result c.in-Err.fault c.in-Err.is same found.ensures.fault found.ensures.cause)
    c.tell_limited.ensures
