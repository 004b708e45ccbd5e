use Rattle.verdict.proofs.BeginningLemmas.{initial-none, initial-refuses}
use Rattle.verdict.proofs.clauses.begin.Goals as goal

pub begin_with_care-requires : goal.begin_with_care-requires
begin_with_care-requires c =
    let q = c.args.question.now in
    initial-none q.net q.care (rw (c.net-net.ensures.net, c.care-care.ensures.care, c.in-NoVector.is) at c.in_ok-state.ensures)

pub returns-in-Least : goal.returns-in-Least
returns-in-Least c what =
    let q = c.args.question.now in
    rw c.of.ensures (initial-refuses q.net q.care what c.in-Least.state.items (rw (c.net-net.ensures.net, c.care-care.ensures.care, c.in-Least.is) at c.in_ok-state.ensures))
