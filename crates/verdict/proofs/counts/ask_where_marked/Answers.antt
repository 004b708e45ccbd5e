use Rattle.verdict.proofs.counts.ask_where_marked.Goals as goal

pub returns-then-branch : goal.returns-then-branch
returns-then-branch c =
    (rw (c.looped-looped.ensures.looped, c.block_number-block.ensures) at c.in_ok-has_one_known_cut.ensures) c.args.question.now.care c.requires.known c.if-branch.true

pub sweeps_fed_known-requires-clause-fed : goal.sweeps_fed_known-requires-clause-fed
sweeps_fed_known-requires-clause-fed c =
    rw (c.looped-looped.ensures.looped, c.care-care.ensures.care, c.block_number-block.ensures) (c.in_ok-is_fed_known.ensures c.if-not-branch.false)

pub returns : goal.returns
returns c = rw (c.looped-looped.ensures.looped, c.care-care.ensures.care, c.block_number-block.ensures) at c.sweeps_fed_known.ensures
