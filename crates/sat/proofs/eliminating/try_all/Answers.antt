use Rattle.sat.proofs.CnfLemmas.{extends_trans}
use Rattle.sat.proofs.eliminating.try_all.Goals as goal

pub loop-code-preserved : goal.loop-code-preserved
loop-code-preserved c = extends_trans c.args.database.now c.loop-code.database c.try_variable.new.database c.loop-code.invariant c.try_variable.ensures

pub returns-in_err-try_variable : goal.returns-in_err-try_variable
returns-in_err-try_variable c = extends_trans c.args.database.now c.loop-code.database c.try_variable.new.database c.loop-code.invariant c.try_variable.ensures
