use Rattle.cyc_tool.proofs.problem.Problem.decide.Goals as goal

pub returns-clause-verdict : goal.returns-clause-verdict
returns-clause-verdict c =
    rw (c.net-net.ensures.net, c.blocks-blocks.ensures.blocks, c.cut-cut.ensures.cut, c.looped-looped.ensures.looped, c.care-care.ensures.care, c.observe-observe.ensures.observe) at c.decide.ensures.verdict

pub returns-clause-fault : goal.returns-clause-fault
returns-clause-fault c = rw c.limit-limit.ensures.limit at c.decide.ensures.fault

pub returns-clause-cause : goal.returns-clause-cause
returns-clause-cause c =
    rw (c.net-net.ensures.net, c.looped-looped.ensures.looped, c.care-care.ensures.care, c.limit-limit.ensures.limit) at c.decide.ensures.cause

pub returns-clause-enough : goal.returns-clause-enough
returns-clause-enough c =
    rw (c.net-net.ensures.net, c.looped-looped.ensures.looped, c.care-care.ensures.care, c.limit-limit.ensures.limit) at c.decide.ensures.enough

pub decide-requires-clause-care : goal.decide-requires-clause-care
decide-requires-clause-care c =
    rw (c.net-net.ensures.net, c.looped-looped.ensures.looped, c.care-care.ensures.care) c.looped-looped.ensures.can.care

pub decide-requires-clause-limit : goal.decide-requires-clause-limit
decide-requires-clause-limit c = rw c.limit-limit.ensures.limit c.looped-looped.ensures.can.limit
