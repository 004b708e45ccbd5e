use Rattle.std.proofs.Common.{subst}
use Rattle.bdd_store.proofs.Common.{IsLawful}
use Rattle.bdd_store.specs.contracts.store.Store.{the_view}
use Rattle.bdd_store.proofs.CanonicalLemmas.{IsLawful-sound}
use Rattle.bdd_store.proofs.store.Store.laws.Goals as goal

pub returns : goal.returns
returns c = subst IsLawful c.self.view_is (IsLawful-sound (the_view c.self.inside) c.self.invariant.2 c.self.invariant.3)
