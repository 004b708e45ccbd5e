use Rattle.sat.proofs.CnfLemmas.{extends_trans}
use Rattle.sat.proofs.eliminating.eliminate_with.Goals as goal

pub loop-most-preserved : goal.loop-most-preserved
loop-most-preserved c = extends_trans c.args.database.now c.loop-most.database c.try_all.new.database c.loop-most.invariant c.try_all.ensures

pub returns-in_err-try_all : goal.returns-in_err-try_all
returns-in_err-try_all c = extends_trans c.args.database.now c.loop-most.database c.try_all.new.database c.loop-most.invariant c.try_all.ensures
