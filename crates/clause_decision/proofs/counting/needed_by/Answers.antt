use Rattle.std.proofs.Common.{arith}
use Rattle.clause_decision.proofs.counting.needed_by.Goals as goal

pub returns-in_ok-needed_at-in-Model : goal.returns-in_ok-needed_at-in-Model
returns-in_ok-needed_at-in-Model c told need = grind arith

pub returns-in-NoModel : goal.returns-in-NoModel
returns-in-NoModel c told need = grind arith
