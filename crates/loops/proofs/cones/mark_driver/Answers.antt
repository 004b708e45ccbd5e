use Rattle.std.proofs.Common.{arith}
use Rattle.loops.proofs.MarkLemmas.{driver-none, driver-marked}
use Rattle.loops.proofs.cones.mark_driver.Goals as goal

pub returns-in-Some : goal.returns-in-Some
returns-in-Some c =
    let driven = c.in-Some.ensures.driven in
    driver-marked c.args.net.now c.args.signal c.args.marks.now c.in-Some.gate driven.1 (omega (arith, driven.0, c.requires.width))

pub returns-in_default : goal.returns-in_default
returns-in_default c = driver-none c.args.net.now c.args.signal c.args.marks.now c.driver.result c.in_default.not-Some c.driver.ensures.given
