use Rattle.cyc_tool.proofs.problem.Problem.judge.Goals as goal

pub returns-clause-judgement : goal.returns-clause-judgement
returns-clause-judgement c =
    rw (c.net-net.ensures.net, c.looped-looped.ensures.looped, c.care-care.ensures.care, c.observe-observe.ensures.observe) at c.judge.ensures.judgement

pub returns-clause-fault : goal.returns-clause-fault
returns-clause-fault c = rw c.limit-limit.ensures.limit at c.judge.ensures.fault

pub returns-clause-cause : goal.returns-clause-cause
returns-clause-cause c =
    rw (c.net-net.ensures.net, c.looped-looped.ensures.looped, c.care-care.ensures.care, c.limit-limit.ensures.limit) at c.judge.ensures.cause

pub returns-clause-enough : goal.returns-clause-enough
returns-clause-enough c =
    rw (c.net-net.ensures.net, c.looped-looped.ensures.looped, c.care-care.ensures.care, c.limit-limit.ensures.limit) at c.judge.ensures.enough

pub judge-requires-clause-care : goal.judge-requires-clause-care
judge-requires-clause-care c =
    rw (c.net-net.ensures.net, c.looped-looped.ensures.looped, c.care-care.ensures.care) c.looped-looped.ensures.can.care

pub judge-requires-clause-limit : goal.judge-requires-clause-limit
judge-requires-clause-limit c = rw c.limit-limit.ensures.limit c.looped-looped.ensures.can.limit
