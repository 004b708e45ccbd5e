use Rattle.std.proofs.Common.{arith}
use Rattle.isolation.proofs.Common.{origins}
use Rattle.isolation.proofs.BuildingLemmas.{numbers_more, numbers_all, not_there}
use Rattle.isolation.proofs.excerpt.numbers_of.Goals as goal

pub loop-pin-init : goal.loop-pin-init
loop-pin-init c = grind arith

pub loop-pin-preserved : goal.loop-pin-preserved
loop-pin-preserved c =
    numbers_more (origins c.args.net.now c.args.outside.now.keys c.args.gates.now) c.args.pins.now c.loop-pin.numbers.items c.push.new.self.items c.loop-pin.pin-index _ c.in-Some.number c.loop-pin-test.true c.in_ok-push.ensures.items c.loop-pin.invariant c.in-Some.ensures.number

pub returns-clause-numbers : goal.returns-clause-numbers
returns-clause-numbers c = grind (arith, numbers_all (origins c.args.net.now c.args.outside.now.keys c.args.gates.now) c.args.pins.now c.loop-pin.numbers.items c.loop-pin.pin-index)

pub returns-in_default-clause-some : goal.returns-in_default-clause-some
returns-in_default-clause-some c numerable among =
    let here = c.number_of.ensures.some numerable (among c.loop-pin.pin-index _ c.loop-pin-test.true) in
    absurd (not_there c.in_default.not-Some here)
