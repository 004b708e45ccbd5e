use Rattle.assumptions.proofs.FoundLemmas.{asked_at, asked_unknown, asked_among, row_made}
use Rattle.assumptions.proofs.search.next_row.Goals as goal

pub row_at-requires-clause-at : goal.row_at-requires-clause-at
row_at-requires-clause-at c =
    asked_at c.args.task.now.looped.now.net c.net-net.result.now c.args.task.now.care.now c.args.task.now.observe c.args.rows.now c.args.refusal.now
    c.in-Undetermined.vector c.items.result.now c.in-Undetermined.wire c.net-net.ensures.net c.items.ensures c.in-Undetermined.is c.requires.refused

pub row_at-requires-clause-unknown : goal.row_at-requires-clause-unknown
row_at-requires-clause-unknown c =
    asked_unknown c.args.task.now.looped.now.net c.net-net.result.now c.args.task.now.care.now c.args.task.now.observe c.args.rows.now c.args.refusal.now
    c.in-Undetermined.vector c.items.result.now c.in-Undetermined.wire c.net-net.ensures.net c.items.ensures c.in-Undetermined.is c.requires.refused

pub row_at-requires-clause-observed : goal.row_at-requires-clause-observed
row_at-requires-clause-observed c =
    asked_among c.args.task.now.looped.now.net c.net-net.result.now c.args.task.now.care.now c.args.task.now.observe c.args.rows.now c.args.refusal.now
    c.in-Undetermined.vector c.items.result.now c.in-Undetermined.wire c.net-net.ensures.net c.items.ensures c.in-Undetermined.is c.requires.refused

pub returns : goal.returns
returns c =
    row_made c.args.task.now.looped.now.net c.net-net.result.now c.args.task.now.care.now c.args.task.now.observe c.args.rows.now c.args.refusal.now
    c.in-Undetermined.vector c.items.result.now c.in-Undetermined.wire c.net-net.ensures.net c.items.ensures c.in-Undetermined.is c.requires.refused
    c.row_at.result c.row_at.ensures.opens c.row_at.ensures.inside
