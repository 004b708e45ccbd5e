use Rattle.aig_core.proofs.Common.{IsGateOrder}
use Rattle.aig_core.proofs.BuildingLemmas.{built_has_values, built_fits}
use Rattle.aig_core.proofs.building.build.Goals as goal

pub returns-in_ok-build_in_order-in-Some-clause-fits :
    goal.returns-in_ok-build_in_order-in-Some-clause-fits
returns-in_ok-build_in_order-in-Some-clause-fits c =
    let net = c.args.net.now in
    let order : IsGateOrder net c.in-Some.order.items = rw c.in-Some.is at c.in_ok-order.ensures.order in
    rw c.in_ok-build_in_order-in-Some.ensures.built (built_fits net c.in-Some.order.items c.in_ok-order.ensures.valid order)

pub returns-in_ok-build_in_order-in-Some-clause-values :
    goal.returns-in_ok-build_in_order-in-Some-clause-values
returns-in_ok-build_in_order-in-Some-clause-values c =
    let net = c.args.net.now in
    let order : IsGateOrder net c.in-Some.order.items = rw c.in-Some.is at c.in_ok-order.ensures.order in
    rw c.in_ok-build_in_order-in-Some.ensures.built (built_has_values net c.in-Some.order.items c.in_ok-order.ensures.valid order)
