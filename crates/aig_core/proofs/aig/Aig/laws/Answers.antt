use Rattle.std.proofs.Common.{subst}
use Rattle.aig_core.specs.Soundness.{IsLawful}
use Rattle.aig_core.proofs.LawLemmas.{IsLawful-sound}
use Rattle.aig_core.specs.contracts.aig.Aig.{the_view}
use Rattle.aig_core.proofs.aig.Aig.laws.Goals as goal

pub returns : goal.returns
returns c = subst IsLawful c.self.view_is (IsLawful-sound (the_view c.self.inside) c.self.invariant.2)
