use Rattle.std.proofs.Common.{arith}
use Rattle.sat.proofs.CnfLemmas.{member_more}
use Rattle.sat.proofs.engine.Engine.load.Goals as goal

pub returns-in_err-load_clause : goal.returns-in_err-load_clause
returns-in_err-load_clause c =
    rw c.in_ok-push.ensures.added (member_more c.args.formula.now c.loop-number.self.database c.loop-number.number c.clause-clause.result.now (omega arith) c.clause-clause.ensures c.loop-number.invariant)

pub loop-number-preserved : goal.loop-number-preserved
loop-number-preserved c =
    rw c.in_ok-push.ensures.added (member_more c.args.formula.now c.loop-number.self.database c.loop-number.number c.clause-clause.result.now (omega arith) c.clause-clause.ensures c.loop-number.invariant)
