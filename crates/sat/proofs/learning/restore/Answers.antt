use Rattle.sat.proofs.CnfLemmas.{member_more}
use Rattle.sat.proofs.learning.restore.Goals as goal

pub returns-in_err-watch_clause-clause-follows : goal.returns-in_err-watch_clause-clause-follows
returns-in_err-watch_clause-clause-follows c =
    rw c.in_ok-push.ensures.added (member_more c.args.formula.now c.args.database.now c.args.number c.clause-clause.result.now c.requires.within c.clause-clause.ensures c.requires.follows)

pub returns-clause-follows : goal.returns-clause-follows
returns-clause-follows c =
    rw c.in_ok-push.ensures.added (member_more c.args.formula.now c.args.database.now c.args.number c.clause-clause.result.now c.requires.within c.clause-clause.ensures c.requires.follows)
