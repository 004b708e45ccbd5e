use Rattle.std.proofs.Common.{arith}
use Rattle.isolation.proofs.BuildingLemmas.{not_there}
use Rattle.isolation.proofs.ValidLemmas.{numerable, excerpt-valid}
use Rattle.isolation.proofs.excerpt.excerpt.Goals as goal

pub returns-in_default-clause-some : goal.returns-in_default-clause-some
returns-in_default-clause-some c closed =
    absurd (not_there c.in_default.not-Some
    (c.in_ok-parts.ensures.some (numerable c.args.net.now c.args.gates.now c.args.outside.now.keys c.in_ok-parts.ensures.valid c.requires.gates c.requires.outside c.requires.apart closed) closed))

pub returns-clause-some : goal.returns-clause-some
returns-clause-some c closed = grind (arith, excerpt-valid c.args.net.now c.args.gates.now c.args.outside.now.keys c.requires.gates c.requires.outside c.requires.apart closed.rise closed.once c.in_ok-parts.ensures.valid c.in-Some.parts)
