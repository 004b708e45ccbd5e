use Rattle.std.proofs.lemmas.Result.{IfOk-weaker}
use Rattle.assumptions.proofs.ImpliedLemmas.{short_next}
use Rattle.assumptions.proofs.search.short_row.Goals as goal

pub returns-then-rows-lt-READ_ROWS : goal.returns-then-rows-lt-READ_ROWS
returns-then-rows-lt-READ_ROWS c =
    IfOk-weaker c.without_implied_values.result _ _
    (λ short thinned.
    short_next c.args.task.now.looped.now.net c.args.task.now.care.now c.args.task.now.observe c.args.rows.now c.in_ok-row.row short c.in_ok-row.ensures thinned)
    c.without_implied_values.ensures
