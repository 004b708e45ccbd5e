use Rattle.clause_pairs.proofs.Common.{IfOk-weaker}
use Rattle.clause_pairs.proofs.cubes.leave_none_out.Goals as goal

pub returns-in-Ok : goal.returns-in-Ok
returns-in-Ok c = IfOk-weaker c.has_no_model.result _ _ (λ none told h. c.in-Ok.ensures.complete (told h)) c.has_no_model.ensures
