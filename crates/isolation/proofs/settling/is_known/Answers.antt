use Rattle.std.proofs.Common.{arith}
use Rattle.bdd_store.proofs.GrowthLemmas.{grows_answered, grows_refused}
use Rattle.isolation.proofs.UnknownLemmas.{unknown-vector}
use Rattle.isolation.proofs.settling.is_known.Goals as goal

pub returns-clause-unknown : goal.returns-clause-unknown
returns-clause-unknown c other = grind (arith, unknown-vector c.args.d.now c.or.new.self c.args.rails c.in_ok-either.either c.of.result c.eq.result)

pub returns-clause-grows : goal.returns-clause-grows
returns-clause-grows c = grows_answered c.or.ensures.grows

pub returns-in_err-either-clause-grows : goal.returns-in_err-either-clause-grows
returns-in_err-either-clause-grows c = grows_refused c.in_err-either.was c.from_residual.ensures.1 c.or.ensures.grows
