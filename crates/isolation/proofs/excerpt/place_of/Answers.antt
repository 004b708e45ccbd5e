use Rattle.std.proofs.Common.{None, Some, true≢false, arith}
use Rattle.isolation.proofs.BuildingLemmas.{found_place, found_some, place_outside}
use Rattle.isolation.proofs.excerpt.place_of.Goals as goal

pub returns-in-Some-clause-place : goal.returns-in-Some-clause-place
returns-in-Some-clause-place c =
    place_outside c.args.net.now c.args.outside.now.keys c.args.gates.now c.args.signal c.in-Some.place (found_place c.args.outside.now.keys c.args.signal (Some c.in-Some.place) c.in-Some.ensures.index)

pub returns-in-None-clause-some : goal.returns-in-None-clause-some
returns-in-None-clause-some c rise among = grind (arith, true≢false, found_some c.args.outside.now.keys c.args.signal None c.in-None.ensures.index)
