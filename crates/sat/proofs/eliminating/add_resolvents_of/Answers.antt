use Rattle.sat.proofs.CnfLemmas.{extends_trans}
use Rattle.sat.proofs.eliminating.add_resolvents_of.Goals as goal

pub loop-place-preserved : goal.loop-place-preserved
loop-place-preserved c = extends_trans c.args.database.now c.loop-place.database c.add_resolvent.new.database c.loop-place.invariant c.add_resolvent.ensures

pub returns-in_err-add_resolvent : goal.returns-in_err-add_resolvent
returns-in_err-add_resolvent c = extends_trans c.args.database.now c.loop-place.database c.add_resolvent.new.database c.loop-place.invariant c.add_resolvent.ensures
