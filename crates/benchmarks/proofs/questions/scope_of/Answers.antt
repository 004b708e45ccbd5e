use Rattle.std.proofs.Common.{arith}
use Rattle.benchmarks.proofs.QuestionLemmas.{cone_closes}
use Rattle.benchmarks.proofs.questions.scope_of.Goals as goal

pub returns : goal.returns
returns c = grind (arith, cone_closes c.args.looped.now.net c.args.open.now c.in_ok-upstream_of.field-0.items)
