use Rattle.std.proofs.Common.{None, sym, ◌∙◌}
use Rattle.miters.proofs.ComparisonLemmas.{difference_wide, told_of}
use Rattle.equal.proofs.comparing.compare_accepted.Goals as goal

pub at_difference-requires : goal.at_difference-requires
at_difference-requires c = difference_wide c.args.a.now c.args.b.now c.args.care.now c.in-Some.vector (sym c.in_ok-vector.ensures.found ∙ c.in-Some.is)

pub returns-in-None-clause-answer : goal.returns-in-None-clause-answer
returns-in-None-clause-answer c = told_of c.args.a.now c.args.b.now c.args.care.now None (sym c.in-None.is ∙ c.in_ok-vector.ensures.found)
