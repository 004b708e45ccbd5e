use Rattle.std.proofs.Common.{sym, ◌∙◌}
use Rattle.miters.proofs.ComparisonLemmas.{told_unmatched}
use Rattle.equal.proofs.comparing.compare.Goals as goal

pub returns-in-Some-clause-answer : goal.returns-in-Some-clause-answer
returns-in-Some-clause-answer c = told_unmatched c.args.a.now c.args.care_a.now c.args.b.now c.args.care_b.now c.in-Some.name (sym c.in-Some.is ∙ c.in_ok-name.ensures)
