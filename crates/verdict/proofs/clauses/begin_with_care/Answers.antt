use Rattle.std.proofs.Common.{◌∙◌}
use Rattle.verdict.proofs.BeginningLemmas.{care-some, care-none}
use Rattle.verdict.proofs.clauses.begin_with_care.Goals as goal

pub returns-in-Some-true : goal.returns-in-Some-true
returns-in-Some-true c =
    let q = c.args.question.now in
    care-some q.net q.care ((rw (c.net-net.ensures.net, c.care-care.ensures.care, c.in-Some-true.is) at c.in_ok-is_possible.ensures) ∙ c.in-Some-true.field-0-test) c.requires

pub returns-in-Some-false : goal.returns-in-Some-false
returns-in-Some-false c what =
    let q = c.args.question.now in
    care-none q.net q.care what ((rw (c.net-net.ensures.net, c.care-care.ensures.care, c.in-Some-false.is) at c.in_ok-is_possible.ensures) ∙ c.in-Some-false.field-0-test) c.requires
