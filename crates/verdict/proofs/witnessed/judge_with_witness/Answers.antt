use Rattle.std.proofs.Common.{subst, sym}
use Rattle.diagram_decision.specs.Questions.{looped_in}
use Rattle.verdict.specs.Questions.{IsGround}
use Rattle.verdict.proofs.witnessed.judge_with_witness.Goals as goal

pub new-question-requires : goal.new-question-requires
new-question-requires c = subst (λ q. IsGround (looped_in q) c.in-Ok.ground) (sym c.new-asked.ensures) c.in-Ok.ensures
