use Rattle.std.proofs.Common.{subst, sym}
use Rattle.verdict.specs.Scopes.{AreDrivers}
use Rattle.verdict.proofs.ScopeLemmas.{drivers-within}
use Rattle.verdict.proofs.invariance.ask_invariance.Goals as goal

pub least_leaving-requires-clause-loads : goal.least_leaving-requires-clause-loads
least_leaving-requires-clause-loads c =
    let net = c.net-net.result.now in
    let care = c.care-care.result.now in
    drivers-within net care c.in_ok-scope.scope c.deref.result.now (subst (AreDrivers net care) (sym c.deref.ensures.value) c.in_ok-drivers.ensures.drivers) c.in_ok-scope.ensures.within
