use Rattle.std.proofs.Common.{subst}
use Rattle.equal.proofs.Common.{Accepted}
use Rattle.equal.specs.Compared.{FindsLeast}
use Rattle.equal.proofs.least.least_difference.Goals as goal

pub returns-in-Some : goal.returns-in-Some
returns-in-Some c =
    let finds = subst (λ (m : Accepted). FindsLeast m c.args.limit c.difference.new.d c.difference.result) c.in-Some.ensures c.difference.ensures in
    record { found = finds.found; fault = finds.fault; cause = finds.cause; below = finds.below }
