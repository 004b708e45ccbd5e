use Rattle.std.proofs.Common.{subst}
use Rattle.fixpoint.proofs.Common.{IsLawful}
use Rattle.fixpoint.proofs.KeptLemmas.{RootsStay-swept}
use Rattle.fixpoint.proofs.clearing.sweep_store.Goals as goal

pub returns-in_err-progress-clause-roots : goal.returns-in_err-progress-clause-roots
returns-in_err-progress-clause-roots c = RootsStay-swept (subst IsLawful c.store-2.ensures c.laws-2.ensures) c.in_ok-sweep.ensures.roots

pub returns-clause-roots : goal.returns-clause-roots
returns-clause-roots c = RootsStay-swept (subst IsLawful c.store-2.ensures c.laws-2.ensures) c.in_ok-sweep.ensures.roots
