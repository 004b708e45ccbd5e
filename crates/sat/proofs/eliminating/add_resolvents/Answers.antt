use Rattle.sat.proofs.CnfLemmas.{extends_trans}
use Rattle.sat.proofs.eliminating.add_resolvents.Goals as goal

pub loop-place-preserved : goal.loop-place-preserved
loop-place-preserved c = extends_trans c.args.database.now c.loop-place.database c.add_resolvents_of.new.database c.loop-place.invariant c.add_resolvents_of.ensures

pub returns-in_err-add_resolvents_of : goal.returns-in_err-add_resolvents_of
returns-in_err-add_resolvents_of c = extends_trans c.args.database.now c.loop-place.database c.add_resolvents_of.new.database c.loop-place.invariant c.add_resolvents_of.ensures
