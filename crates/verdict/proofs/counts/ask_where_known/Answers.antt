use Rattle.verdict.proofs.counts.ask_where_known.Goals as goal

pub returns-then-branch : goal.returns-then-branch
returns-then-branch c =
    (rw (c.looped-looped.ensures.looped, c.block_number-block.ensures) at c.in_ok-needs_one_sweep.ensures) c.args.question.now.care c.requires.some c.requires.known c.if-branch.true

pub sweeps_needed-requires-clause-known : goal.sweeps_needed-requires-clause-known
sweeps_needed-requires-clause-known c = rw (c.looped-looped.ensures.looped, c.care-care.ensures.care) c.requires.known

pub returns : goal.returns
returns c = rw (c.looped-looped.ensures.looped, c.care-care.ensures.care, c.block_number-block.ensures) at c.sweeps_needed.ensures
