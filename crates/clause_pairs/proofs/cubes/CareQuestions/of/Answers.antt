use Rattle.clause_pairs.proofs.Common.{IfOk-weaker}
use Rattle.clause_pairs.proofs.CubeLemmas.{saying, some-asks}
use Rattle.clause_pairs.proofs.cubes.CareQuestions.of.Goals as goal

pub questions_of-requires : goal.questions_of-requires
questions_of-requires c = saying c.args.net.now c.args.care.now c.in-Ok.said c.in-Ok.ensures

pub returns-in-Ok : goal.returns-in-Ok
returns-in-Ok c = IfOk-weaker c.questions_of.result _ _ (λ found made. some-asks c.args.net.now c.args.care.now c.in-Ok.said found c.in-Ok.ensures made) c.questions_of.ensures
